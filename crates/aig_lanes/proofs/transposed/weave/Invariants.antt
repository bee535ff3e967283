use Rattle.std.specs.Prelude.{◌≡◌, ◌+◌, ◌*◌, ◌/◌, ◌%◌, ◌<◌, ℕ, length}
use Rattle.aig_lanes.specs.Parts.Sheets.{byte_at}
use Rattle.aig_lanes.proofs.transposed.weave.Given as goal

abbrev pub invariant-loop-k : goal.invariant-loop-k
invariant-loop-k l = record {
  own : (m : ℕ) → m < 64 * l.k → byte_at m l.between ≡ byte_at (m / 2 + 128 * (m % 2)) l.rows;
  size : length l.between ≡ 8;
}
