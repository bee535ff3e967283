use Rattle.aig_equal.proofs.Whole.{invariant_means_alike}
use Rattle.aig_equal.proofs.laws.invariant_means_alike.Goals as goal

pub returns : goal.returns
returns c = invariant_means_alike
