use Rattle.aig_verdicts.proofs.Plain.{comments_are_passed_over}
use Rattle.aig_verdicts.proofs.laws.comments_are_passed_over.Goals as goal

pub returns : goal.returns
returns c = comments_are_passed_over
