use Rattle.std.proofs.Common.{◌≡◌, ◌+◌, ◌-◌, ◌/◌, ◌%◌, ◌^◌, ◌<◌, ◌≤◌, ℕ, List, length, slice_index_or, All}
use Rattle.aig_lanes.specs.Parts.InputBits.{byte_in}
use Rattle.aig_lanes.proofs.input_planes.put_square.Given as goal

abbrev pub invariant-loop-k : goal.invariant-loop-k
invariant-loop-k l = record {
  own : (k i : ℕ) → k < l.k → l.lane ≤ i → i < l.lane + 8
      → byte_in k i l.eights ≡ slice_index_or l.rows (i - l.lane) 0 / 256 ^ k % 256;
  lanes : (k i : ℕ) → i < l.lane → byte_in k i l.eights ≡ byte_in k i l.fn.eights;
  wide : All (λ (eight : List ℕ). length eight ≡ 264) l.eights;
  size : length l.eights ≡ 8;
}
