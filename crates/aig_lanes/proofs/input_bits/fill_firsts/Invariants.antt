use Rattle.std.specs.Prelude.{◌≡◌, ◌<◌, ℕ, [], length, slice_index_or}
use Rattle.aig_lanes.specs.Parts.InputBits.{HoldsInputs, one_step, step_of}
use Rattle.aig_lanes.proofs.input_bits.fill_firsts.Given as goal

abbrev pub invariant-loop-lane : goal.invariant-loop-lane
invariant-loop-lane l = record {
  holds : (k : ℕ) → k < l.lane
      → HoldsInputs l.first (one_step (step_of l.run k)) (slice_index_or l.lanes k []);
  count : length l.lanes ≡ length l.fn.lanes;
  sizes : (k : ℕ) → length (slice_index_or l.lanes k []) ≡ length (slice_index_or l.fn.lanes k []);
}
