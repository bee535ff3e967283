use Rattle.aig_commands.proofs.Dumps.{one_dump}
use Rattle.aig_commands.proofs.dump_laws.dumps_are_unambiguous.Goals as goal

pub returns : goal.returns
returns c = one_dump
