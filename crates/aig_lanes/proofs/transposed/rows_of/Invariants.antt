use Rattle.std.specs.Prelude.{◌≡◌, ◌+◌, ◌*◌, ◌<◌, ℕ, [], length, slice_index_or}
use Rattle.std.specs.Int.{bit_at}
use Rattle.aig_places.specs.Lanes.{bit_in}
use Rattle.aig_lanes.proofs.transposed.rows_of.Given as goal

abbrev pub invariant-loop-r : goal.invariant-loop-r
invariant-loop-r l = record {
  own : (r octet j : ℕ) → r < l.r → octet < 32 → j < 8
      → bit_at (slice_index_or (slice_index_or l.rows r []) octet 0) j
      ≡ bit_in (8 * octet + j) (slice_index_or l.planes (2 * r + l.first) []);
  size : length l.rows ≡ 8;
}
