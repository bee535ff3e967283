use Rattle.std.proofs.Common.{◌≡◌, ◌<◌, ◌+◌, ℕ, length, get_or}
use Rattle.aig_image.proofs.placed.gate_numbers.Given as goal

abbrev pub invariant-loop-at : goal.invariant-loop-at
invariant-loop-at l = record {
  many : length l.numbers.items ≡ length l.order;
  numbers : (k : ℕ) → k < l.at → get_or l.numbers.items (get_or l.order k 0) 0 ≡ l.before + (k + 1);
}
