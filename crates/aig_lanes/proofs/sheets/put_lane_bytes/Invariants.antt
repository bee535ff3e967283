use Rattle.std.specs.Prelude.{◌≡◌, ◌<◌, ◌≤◌, ℕ, length, slice_index_or}
use Rattle.aig_lanes.specs.Parts.Sheets.{BytesText, bytes_text, eight_at, overwritten}
use Rattle.aig_lanes.proofs.sheets.put_lane_bytes.Given as goal

abbrev pub invariant-loop-k : goal.invariant-loop-k
invariant-loop-k l = record {
  own : (k j : ℕ) (d : BytesText) → k < l.k → bytes_text j (slice_index_or l.byte_rows k d)
      ≡ overwritten l.at (bytes_text j (eight_at k l.ones l.zeros)) (bytes_text j (slice_index_or l.fn.byte_rows k d));
  behind : (k : ℕ) (d : BytesText) → l.k ≤ k → slice_index_or l.byte_rows k d ≡ slice_index_or l.fn.byte_rows k d;
  size : length l.byte_rows ≡ 32;
}
