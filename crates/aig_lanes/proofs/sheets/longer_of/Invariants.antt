use Rattle.std.specs.Prelude.{◌≡◌, ◌/◌, ◌<◌, ◌≤◌, ℕ, length, slice_index_or}
use Rattle.aig_lanes.specs.declared.run.Run.{Run}
use Rattle.aig_lanes.proofs.sheets.longer_of.Given as goal

abbrev pub invariant-loop-lane : goal.invariant-loop-lane
invariant-loop-lane l = record {
  least : l.least ≤ l.longest;
  all : (k : ℕ) (d : Run) → k / 8 ≡ l.octet → k < l.lane → k < length l.runs
      → length (slice_index_or l.runs k d).steps ≤ l.longest;
}
