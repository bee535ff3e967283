use Rattle.std.specs.Prelude.{◌≡◌, ◌+◌, ◌<◌, ℕ, length, slice_index_or}
use Rattle.aig_lanes.specs.Parts.InputBits.{word_at}
use Rattle.aig_lanes.proofs.input_planes.rows_at.Given as goal

abbrev pub invariant-loop-r : goal.invariant-loop-r
invariant-loop-r l = record {
  ones : (r : ℕ) → r < l.r → slice_index_or l.ones r 0 ≡ (word_at (l.lane + r) l.step l.bits).one;
  zeros : (r : ℕ) → r < l.r → slice_index_or l.zeros r 0 ≡ (word_at (l.lane + r) l.step l.bits).zero;
  ones_size : length l.ones ≡ 8;
  zeros_size : length l.zeros ≡ 8;
}
