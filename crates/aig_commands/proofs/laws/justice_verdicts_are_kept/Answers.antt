use Rattle.aig_commands.proofs.JusticeKept.{justice_verdicts_are_kept}
use Rattle.aig_commands.proofs.laws.justice_verdicts_are_kept.Goals as goal

pub returns : goal.returns
returns c = justice_verdicts_are_kept
