-- Names as words of a dump. A reader takes a word of visible ASCII characters; which of them it refuses, and how long
-- an index may be, is this project's profile.
use Rattle.std.specs.Prelude.{◌==◌, ◌&&◌, ◌||◌, ◌+◌, ◌^◌, ℕ, List, [], ◌∷◌, Bool, false, not, map, length, nat_le}
use Rattle.std.specs.Prelude.{nat_lt, bytes_eq, Option, None, Some, if◌then◌else◌}
use Rattle.aig_rows.specs.CanonicalNumber.{canonical_before}

-- A bracket is shown as a round one, and `$`, `:` and what is no visible character as `_`.
abbrev pub shown_byte : ℕ → ℕ
shown_byte b =
    if b == 91 then 40
    else if b == 93 then 41
    else if (b == 36 || b == 58) || not (nat_le 33 b && nat_le b 126) then 95
    else b

abbrev pub shown : List ℕ → List ℕ
shown name = map shown_byte name

-- a name of the form `front[index]`
pub record Indexed : Type 0 where
  pub front : List ℕ
  pub index : ℕ

-- what stands before the last `[`, and what stands after it
pub record Parted : Type 0 where
  pub front : List ℕ
  pub rest : List ℕ

abbrev pub parted_behind : ℕ → List ℕ → Option Parted → Option Parted
parted_behind b bs (Some p) = Some (record { front = b ∷ p.front; rest = p.rest })
parted_behind b bs None = if b == 91 then Some (record { front = []; rest = bs }) else None

abbrev pub parted : List ℕ → Option Parted
parted [] = None
parted (b ∷ bs) = parted_behind b bs (parted bs)

-- The front is not empty, and the index is a canonical number of at most nine digits.
abbrev pub index_in : List ℕ → Option (ℕ × List ℕ) → Option Indexed
index_in front None = None
index_in front (Some number) =
    if (nat_lt 0 (length front) && (length number.1 == 0)) && nat_lt number.0 (10 ^ 9)
    then Some (record { front = front; index = number.0 })
    else None

abbrev pub indexed_in : Option Parted → Option Indexed
indexed_in None = None
indexed_in (Some p) = index_in p.front (canonical_before 93 p.rest)

unfoldable pub indexed : List ℕ → Option Indexed
indexed name = indexed_in (parted name)

abbrev pub is_next : Option Indexed → Option Indexed → Bool
is_next (Some i) (Some j) = bytes_eq i.front j.front && (i.index + 1 == j.index)
is_next _ _ = false

-- the second name has the same front, and the next index
unfoldable pub follows : List ℕ → List ℕ → Bool
follows name next = is_next (indexed name) (indexed next)
