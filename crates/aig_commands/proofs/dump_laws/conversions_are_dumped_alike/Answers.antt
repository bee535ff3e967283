use Rattle.aig_commands.proofs.Dumps.{dumped_alike}
use Rattle.aig_commands.proofs.dump_laws.conversions_are_dumped_alike.Goals as goal

pub returns : goal.returns
returns c = dumped_alike
