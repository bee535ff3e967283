use Rattle.std.proofs.Common.{◌≡◌, ◌<◌, ℕ, take, get_or, true}
use Rattle.aig_rows.specs.Spelling.{is_digit, value_of}
use Rattle.aig_rows.specs.Kept.{kept}
use Rattle.aig_rows.proofs.number.leading_digits.Given as goal

abbrev pub invariant-loop-at : goal.invariant-loop-at
invariant-loop-at l =
    (l.value ≡ kept (value_of (take l.at l.bytes))) × ((k : ℕ) → k < l.at → is_digit (get_or l.bytes k 0) ≡ true)
