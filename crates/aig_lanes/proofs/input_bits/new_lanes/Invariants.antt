use Rattle.std.specs.Prelude.{◌≡◌, ◌<◌, ◌≤◌, ℕ, List, [], length, slice_index_or}
use Rattle.aig_lanes.specs.declared.run.Run.{Run}
use Rattle.aig_lanes.proofs.input_bits.new_lanes.Given as goal

abbrev pub invariant-loop-lane : goal.invariant-loop-lane
invariant-loop-lane l = record {
  size : length l.lanes.items ≡ l.lane;
  room : (j : ℕ) (runs : List Run) (k : ℕ) (d : Run) → j < length l.groups → k < l.lane
      → k < length (slice_index_or l.groups j runs)
      → length (slice_index_or (slice_index_or l.groups j runs) k d).steps ≤ length (slice_index_or l.lanes.items k []);
}
