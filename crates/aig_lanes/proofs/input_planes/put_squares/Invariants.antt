use Rattle.std.specs.Prelude.{◌≡◌, ◌*◌, ◌<◌, ℕ, length}
use Rattle.aig_lanes.specs.Parts.InputBits.{AreBytes, word_at}
use Rattle.aig_lanes.proofs.input_planes.put_squares.Given as goal

abbrev pub invariant-loop-eight : goal.invariant-loop-eight
invariant-loop-eight l = record {
  bytes : (k : ℕ) → k < 8 * l.eight → AreBytes k (word_at k l.step l.bits) l.ones l.zeros;
  ones : length l.ones ≡ 8;
  zeros : length l.zeros ≡ 8;
}
