use Rattle.aig_topo.proofs.Ordering.LeastReady.{a_least_ready_order, one_least_ready_order}
use Rattle.aig_core.proofs.laws.gates_have_one_order.Goals as goal

pub returns : goal.returns
returns c = record { an_order = a_least_ready_order; one = one_least_ready_order }
