-- Deltas: how a binary file spells numbers, in groups of seven bits, the lowest first, where the top bit says that
-- another group follows (AIGER report). That a number takes five bytes at most, and need not take the fewest, is this
-- project's profile.
use Rattle.std.specs.Prelude.{◌≡◌, ◌+◌, ◌*◌, ◌/◌, ◌%◌, ◌^◌, ◌<◌, ◌≤◌, ◌⊎◌, ℕ, zero, suc, List, [], ◌∷◌, length, take}
use Rattle.std.specs.Prelude.{nat_lt, Option, None, Some, if◌then◌else◌}
use Rattle.aig_rows.specs.Scanning.{◌>>=◌}

-- the number that groups of seven bits spell, the lowest first
abbrev pub value_of_groups : List ℕ → ℕ
value_of_groups [] = 0
value_of_groups (b ∷ bytes) = b % 128 + 128 * value_of_groups bytes

-- one or more bytes, the top bit set in each but the last
abbrev pub AreGroups : List ℕ → Type 0
AreGroups [] = ⊥
AreGroups (b ∷ []) = b < 128
AreGroups (b ∷ c ∷ bytes) = (128 ≤ b) × (b < 256) × AreGroups (c ∷ bytes)

-- one to five bytes spell the number
pub record IsDelta (bytes : List ℕ) (value : ℕ) : Type 0 where
  pub groups : AreGroups bytes
  pub short : length bytes ≤ 5
  pub spells : value_of_groups bytes ≡ value
  pub fits : value < 2 ^ 32

-- so many bytes at the front spell the number
abbrev pub BeginsWithDelta : List ℕ → ℕ → ℕ → Type 0
BeginsWithDelta bytes value count = (count ≤ length bytes) × IsDelta (take count bytes) value

abbrev pub last_byte : List ℕ → ℕ
last_byte [] = 0
last_byte (b ∷ []) = b
last_byte (b ∷ c ∷ bytes) = last_byte (c ∷ bytes)

-- no group of zeros at the end could be left out
abbrev pub IsShortest : List ℕ → Type 0
IsShortest bytes = (length bytes ≡ 1) ⊎ (0 < last_byte bytes)

-- a group, and as many more as the number wants, at most so many
unfoldable pub shortest_groups : ℕ → ℕ → List ℕ
shortest_groups zero value = value ∷ []
shortest_groups (suc more) value =
    if nat_lt value 128 then value ∷ [] else (128 + value % 128) ∷ shortest_groups more (value / 128)

-- the shortest spelling of a number below 2^32
unfoldable pub shortest_delta : ℕ → List ℕ
shortest_delta value = shortest_groups 4 value

-- the number of the groups at the front, at most so many, and what follows them
unfoldable pub groups_at : ℕ → List ℕ → Option (ℕ × List ℕ)
groups_at most [] = None
groups_at zero (b ∷ bytes) = None
groups_at (suc most) (b ∷ bytes) =
    if nat_lt b 128 then Some (b, bytes) else if nat_lt b 256 then (do
      others ← groups_at most bytes
      Some (b % 128 + 128 * others.0, others.1)) else None

-- the number spelled at the front, and what follows it
unfoldable pub delta_at : List ℕ → Option (ℕ × List ℕ)
delta_at bytes = do
  groups ← groups_at 5 bytes
  if nat_lt groups.0 (2 ^ 32) then Some groups else None
