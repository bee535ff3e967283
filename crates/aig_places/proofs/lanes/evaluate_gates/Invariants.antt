use Rattle.std.specs.Prelude.{◌≡◌, ℕ, List, length, drop}
use Rattle.aig_circuit.specs.declared.value.Val.{Val}
use Rattle.aig_places.specs.Lanes.{IsLane}
use Rattle.aig_places.specs.Places.{evaluated_in_turn}
use Rattle.aig_places.proofs.lanes.evaluate_gates.Given as goal

abbrev pub invariant-loop-gate : goal.invariant-loop-gate
invariant-loop-gate l = record {
  lanes : (k : ℕ) (values : List Val) → IsLane k l.fn.planes values
      → (now : List Val) × IsLane k l.planes now
      × (evaluated_in_turn (drop l.gate-index l.gates) now ≡ evaluated_in_turn l.gates values);
  size : length l.planes ≡ length l.fn.planes;
}
