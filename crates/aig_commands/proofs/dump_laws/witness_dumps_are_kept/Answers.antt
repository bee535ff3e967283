use Rattle.aig_commands.proofs.WitnessDumps.{witness_dumps_are_kept}
use Rattle.aig_commands.proofs.dump_laws.witness_dumps_are_kept.Goals as goal

pub returns : goal.returns
returns c = witness_dumps_are_kept
