use Rattle.aig_commands.proofs.WitnessDumps.{verdicts_have_dumps}
use Rattle.aig_commands.proofs.dump_laws.verdicts_have_dumps.Goals as goal

pub returns : goal.returns
returns c = verdicts_have_dumps
