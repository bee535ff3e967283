use Rattle.std.specs.Prelude.{◌≡◌, ◌*◌, ◌<◌, ℕ, List, length, slice_set, take}
use Rattle.aig_circuit.specs.declared.value.Val.{Val}
use Rattle.aig_circuit.specs.declared.value.Val.TheVariants.{Zero}
use Rattle.aig_lanes.specs.Parts.InputBits.{AreWords}
use Rattle.aig_places.specs.Lanes.{IsLane}
use Rattle.aig_step.specs.Parts.Tables.{placed}
use Rattle.aig_lanes.proofs.input_planes.put_vectors.Given as goal

abbrev pub invariant-loop-block : goal.invariant-loop-block
invariant-loop-block l = record {
  lanes : (k : ℕ) (vector values : List Val) → k < 256 → length vector ≡ l.inputs → AreWords k l.step vector l.bits
      → IsLane k l.fn.planes values
      → IsLane k l.planes (placed 1 (take (64 * l.block) vector) (slice_set values 0 Zero));
  size : length l.planes ≡ length l.fn.planes;
}
