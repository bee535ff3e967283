use Rattle.aig_equal.proofs.OneStep.{one_step_says_all}
use Rattle.aig_equal.proofs.laws.one_step_says_all.Goals as goal

pub returns : goal.returns
returns c = one_step_says_all
