use Rattle.std.specs.Prelude.{◌*◌, ◌<◌, ℕ, [], slice_index_or}
use Rattle.aig_lanes.specs.Parts.InputBits.{HoldsBlock, SameRooms}
use Rattle.aig_lanes.proofs.input_bits.fill_bits.Given as goal

abbrev pub invariant-loop-block : goal.invariant-loop-block
invariant-loop-block l = record {
  holds : (block : ℕ) → block < l.block → HoldsBlock (64 * block) l.runs (slice_index_or l.bits block []);
  same : SameRooms l.fn.bits l.bits;
}
