use Rattle.std.specs.Prelude.{◌≡◌, ℕ, List, length, take}
use Rattle.aig_circuit.specs.declared.value.Val.{Val}
use Rattle.aig_places.specs.Lanes.{IsLane}
use Rattle.aig_step.specs.Parts.Tables.{placed}
use Rattle.aig_places.proofs.lanes.place_lanes.Given as goal

abbrev pub invariant-loop-i : goal.invariant-loop-i
invariant-loop-i l = record {
  lanes : (k : ℕ) (values before : List Val) → IsLane k l.fn.planes values → IsLane k l.given before
      → IsLane k l.planes (placed l.first (take l.i before) values);
  size : length l.planes ≡ length l.fn.planes;
}
