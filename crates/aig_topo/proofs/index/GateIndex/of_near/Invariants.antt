use Rattle.std.proofs.Common.{◌≡◌, ◌↔◌, ℕ, true, take, map}
use Rattle.std.specs.FinMap.{get}
use Rattle.aig_circuit.specs.declared.circuit.Gate.{Gate}
use Rattle.aig_circuit.specs.Wellformed.{AreDistinct}
use Rattle.aig_tables.specs.VarMap.{keys_of}
use Rattle.aig_topo.specs.Order.{gate_of}
use Rattle.aig_topo.proofs.index.GateIndex.of_near.Given as goal

abbrev pub invariant-loop-position : goal.invariant-loop-position
invariant-loop-position l = record {
  positions : (v : ℕ) → get l.positions v ≡ gate_of (take l.position l.gates) v;
  once : (l.is_once ≡ true) ↔ AreDistinct (map (λ (g : Gate). g.var) (take l.position l.gates));
  same : keys_of l.positions ≡ l.seen;
}
