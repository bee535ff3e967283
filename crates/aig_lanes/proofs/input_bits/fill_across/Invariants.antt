use Rattle.std.specs.Prelude.{◌*◌, ◌<◌, ℕ, [], slice_index_or}
use Rattle.aig_lanes.specs.Parts.InputBits.{HoldsInputs, SameRooms, one_step, step_of}
use Rattle.aig_lanes.proofs.input_bits.fill_across.Given as goal

abbrev pub invariant-loop-block : goal.invariant-loop-block
invariant-loop-block l = record {
  holds : (block : ℕ) → block < l.block → (lane : ℕ) → lane < 256
      → HoldsInputs (64 * block) (one_step (step_of l.run lane))
      (slice_index_or (slice_index_or l.bits block []) lane []);
  same : SameRooms l.fn.bits l.bits;
}
