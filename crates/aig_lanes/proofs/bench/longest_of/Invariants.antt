use Rattle.std.specs.Prelude.{◌<◌, ◌≤◌, ℕ, List, length, slice_index_or}
use Rattle.aig_lanes.specs.declared.run.Run.{Run}
use Rattle.aig_lanes.proofs.bench.longest_of.Given as goal

abbrev pub invariant-loop-group : goal.invariant-loop-group
invariant-loop-group l = (j : ℕ) (runs : List Run) (k : ℕ) (d : Run) → j < l.group-index
    → k < length (slice_index_or l.groups j runs)
    → length (slice_index_or (slice_index_or l.groups j runs) k d).steps ≤ l.most
