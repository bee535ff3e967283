-- What stands at the front of bytes, read from left to right.
use Rattle.std.specs.Prelude.{◌-◌, ◌==◌, ◌&&◌, ◌||◌, ℕ, zero, suc, List, [], ◌∷◌, length, take, drop, slice_index, Bool}
use Rattle.std.specs.Prelude.{Option, None, Some, if◌then◌else◌}
use Rattle.std.specs.List.{prefix_len}
use Rattle.aig_rows.specs.Spelling.{is_digit, is_space, value_of, zeros}

infixl 10 ◌>>=◌
abbrev pub ◌>>=◌ : {A B : Type 0} → Option A → (A → Option B) → Option B
(Some x) >>= f = f x
None >>= f = None

-- the number at the front, and what follows it
unfoldable pub number_at : List ℕ → Option (ℕ × List ℕ)
number_at bytes =
    let n = prefix_len is_digit bytes in if n == 0 then None else Some (value_of (take n bytes), drop n bytes)

-- what follows one or more spaces
unfoldable pub after_gap : List ℕ → Option (List ℕ)
after_gap bytes = let n = prefix_len is_space bytes in if n == 0 then None else Some (drop n bytes)

-- whether a line may end so
unfoldable pub is_line_end : Bool → List ℕ → Bool
is_line_end ended bytes =
    let rest = drop (prefix_len is_space bytes) bytes in
    (length rest == 0) || (ended && ((length rest == 1) && (slice_index rest 0 == 13)))

-- At least and at most so many numbers, each after one or more spaces, and the end of the line; those left out are 0.
unfoldable pub more_numbers_at : Bool → ℕ → ℕ → List ℕ → Option (List ℕ)
more_numbers_at ended least zero bytes = if is_line_end ended bytes then Some [] else None
more_numbers_at ended least (suc most) bytes =
    if (least == 0) && is_line_end ended bytes then Some (zeros (suc most)) else (do
      digits ← after_gap bytes
      first ← number_at digits
      others ← more_numbers_at ended (least - 1) most first.1
      Some (first.0 ∷ others))

-- a number, at least and at most so many more, and the end of the line
unfoldable pub numbers_at : Bool → ℕ → ℕ → List ℕ → Option (List ℕ)
numbers_at ended least most bytes = do
  first ← number_at bytes
  others ← more_numbers_at ended least most first.1
  Some (first.0 ∷ others)
