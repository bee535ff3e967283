use Rattle.aig_unroll.proofs.Ordering.Ordered.{unrolled_is_ordered}
use Rattle.aig_unroll.proofs.laws.unrolled_is_ordered.Goals as goal

pub returns : goal.returns
returns _ = unrolled_is_ordered
