use Rattle.aig_commands.proofs.Verdicts.{verdicts_are_kept}
use Rattle.aig_commands.proofs.laws.verdicts_are_kept.Goals as goal

pub returns : goal.returns
returns c = verdicts_are_kept
