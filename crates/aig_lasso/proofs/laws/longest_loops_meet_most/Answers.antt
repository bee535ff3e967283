use Rattle.aig_lasso.proofs.Longest.{longest_loops_meet_most}
use Rattle.aig_lasso.proofs.laws.longest_loops_meet_most.Goals as goal

pub returns : goal.returns
returns c = longest_loops_meet_most
