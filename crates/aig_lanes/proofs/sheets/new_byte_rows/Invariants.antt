use Rattle.std.specs.Prelude.{◌≡◌, ◌+◌, ◌*◌, ◌/◌, ◌<◌, ◌≤◌, ℕ, List, length, slice_index_or}
use Rattle.aig_lanes.specs.declared.run.Run.{Run}
use Rattle.aig_lanes.specs.Parts.Sheets.{text_in}
use Rattle.aig_lanes.proofs.sheets.new_byte_rows.Given as goal

abbrev pub invariant-loop-octet : goal.invariant-loop-octet
invariant-loop-octet l = record {
  size : length l.byte_rows.items ≡ l.octet;
  room : (j : ℕ) (runs : List Run) (k : ℕ) (d : Run) → j < length l.groups → k / 8 < l.octet
      → k < length (slice_index_or l.groups j runs)
      → length (slice_index_or (slice_index_or l.groups j runs) k d).steps * l.width + l.more
      ≤ length (text_in k l.byte_rows.items);
}
