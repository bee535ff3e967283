use Rattle.std.proofs.Common.{◌*◌, ◌<◌, ◌≤◌, ℕ, length, slice_index_or, All}
use Rattle.aig_lanes.specs.declared.run.Run.{Run}
use Rattle.aig_lanes.proofs.vectors.longest_run.Given as goal

abbrev pub invariant-loop-run : goal.invariant-loop-run
invariant-loop-run l = record {
  most : (j : ℕ) (d : Run) → j < l.run-index → length (slice_index_or l.runs j d).steps ≤ l.longest;
  least : (size bound : ℕ) → 0 < bound → All (λ (run : Run). length run.steps * size < bound) l.runs
      → l.longest * size < bound;
}
