use Rattle.aig_commands.proofs.Dumps.{dumps_are_kept}
use Rattle.aig_commands.proofs.dump_laws.dumps_are_kept.Goals as goal

pub returns : goal.returns
returns c = dumps_are_kept
