use Rattle.std.specs.Prelude.{◌≡◌, ◌+◌, ◌<◌, ◌≤◌, ℕ, List, length, take}
use Rattle.aig_circuit.specs.declared.value.Val.{Val}
use Rattle.aig_lanes.specs.declared.input_bits.InputWord.{InputWord}
use Rattle.aig_lanes.specs.Parts.InputBits.{AreBytes, IsWord}
use Rattle.aig_places.specs.Lanes.{IsLane}
use Rattle.aig_step.specs.Parts.Tables.{placed}
use Rattle.aig_step.specs.TraceText.{values_text}
use Rattle.aig_lanes.proofs.input_planes.put_planes.Given as goal

abbrev pub invariant-loop-i : goal.invariant-loop-i
invariant-loop-i l = record {
  lanes : (k : ℕ) (word : InputWord) (values vector : List Val) → k < 256 → AreBytes k word l.ones l.zeros
      → IsWord l.first (values_text vector) word → l.first + l.count ≤ length vector
      → IsLane k l.fn.planes (placed 1 (take l.first vector) values)
      → IsLane k l.planes (placed 1 (take (l.first + l.i) vector) values);
  size : length l.planes ≡ length l.fn.planes;
}
