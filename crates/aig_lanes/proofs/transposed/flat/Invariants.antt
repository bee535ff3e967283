use Rattle.std.specs.Prelude.{◌≡◌, ◌*◌, ◌<◌, ℕ, slice_index_or}
use Rattle.aig_lanes.specs.Parts.Sheets.{byte_at}
use Rattle.aig_lanes.proofs.transposed.flat.Given as goal

abbrev pub invariant-loop-k : goal.invariant-loop-k
invariant-loop-k l = (m : ℕ) → m < 32 * l.k → slice_index_or l.bytes m 0 ≡ byte_at m l.rows
