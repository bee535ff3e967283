use Rattle.aig_invariant.proofs.Never.{invariants_mean_never}
use Rattle.aig_invariant.proofs.laws.invariants_mean_never.Goals as goal

pub returns : goal.returns
returns c = invariants_mean_never
