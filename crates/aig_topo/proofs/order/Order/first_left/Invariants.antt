use Rattle.std.proofs.Common.{◌<◌, ℕ}
use Rattle.aig_circuit.specs.Wellformed.{IsAmong}
use Rattle.aig_topo.proofs.order.Order.first_left.Given as goal

abbrev pub invariant-loop-gate : goal.invariant-loop-gate
invariant-loop-gate l = (g : ℕ) → g < l.gate → IsAmong g l.self.list
