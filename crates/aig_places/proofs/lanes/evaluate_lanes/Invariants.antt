use Rattle.std.specs.Prelude.{◌≡◌, ◌+◌, ◌-◌, ◌/◌, ℕ, List, length, drop}
use Rattle.aig_circuit.specs.declared.value.Val.{Val}
use Rattle.aig_places.specs.Lanes.{IsLane}
use Rattle.aig_step.specs.Parts.Tables.{evaluated}
use Rattle.aig_places.proofs.lanes.evaluate_lanes.Given as goal

abbrev pub invariant-loop-pair : goal.invariant-loop-pair
invariant-loop-pair l = record {
  lanes : (k : ℕ) (values : List Val) → IsLane k l.fn.planes values
      → (now : List Val) × IsLane k l.planes now
      × (evaluated l.variable (drop l.pair-index l.pairs) now
      ≡ evaluated (length l.fn.planes / 2 - length l.pairs) l.pairs values);
  size : length l.planes ≡ length l.fn.planes;
  at : l.variable + length l.pairs ≡ length l.fn.planes / 2 + l.pair-index;
}
