-- How a canonical number is read (this project's profile): its digits do not begin with a zero, unless it is 0.
use Rattle.std.specs.Prelude.{◌==◌, ◌&&◌, ◌^◌, ℕ, List, [], ◌∷◌, min, Bool, false, Option, None, Some, if◌then◌else◌}
use Rattle.aig_rows.specs.Spelling.{is_digit}
use Rattle.aig_rows.specs.Scanning.{◌>>=◌, number_at}

-- what follows a byte at the front
abbrev pub after_byte : ℕ → List ℕ → Option (List ℕ)
after_byte byte [] = None
after_byte byte (b ∷ bytes) = if b == byte then Some bytes else None

-- the number at the front, however it is spelled, where this byte stands after it; and what follows the byte. Numbers
-- from 2^33 on are above each limit, and are all taken as 2^33.
unfoldable pub number_before : ℕ → List ℕ → Option (ℕ × List ℕ)
number_before stop bytes = do
  number ← number_at bytes
  rest ← after_byte stop number.1
  Some (min number.0 (2 ^ 33), rest)

-- a zero at the front, with another digit after it
abbrev pub is_padded : List ℕ → Bool
is_padded (a ∷ b ∷ bytes) = is_digit b && (a == 48)
is_padded _ = false

-- the same, where the number is canonical
unfoldable pub canonical_before : ℕ → List ℕ → Option (ℕ × List ℕ)
canonical_before stop bytes = if is_padded bytes then None else number_before stop bytes
