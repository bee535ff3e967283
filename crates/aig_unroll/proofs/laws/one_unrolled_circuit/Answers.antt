use Rattle.aig_unroll.proofs.Ordering.Ordered.{one_unrolled}
use Rattle.aig_unroll.proofs.laws.one_unrolled_circuit.Goals as goal

pub returns : goal.returns
returns _ c frames good = one_unrolled c frames
