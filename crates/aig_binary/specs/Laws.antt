-- What the definitions of this crate say of one another.
use Rattle.std.specs.Prelude.{◌≡◌, ◌^◌, ◌<◌, ◌↔◌, ℕ, List, ◌++◌, Some}
use Rattle.aig_binary.specs.Delta.{IsDelta, IsShortest, shortest_delta, delta_at}

-- the shortest spelling of a number is one of its spellings, and none could be shorter
abbrev pub ShortestIsDelta : Type 0
ShortestIsDelta =
    (value : ℕ) → value < 2 ^ 32 → IsDelta (shortest_delta value) value × IsShortest (shortest_delta value)

-- there is no other shortest spelling
abbrev pub ShortestIsOne : Type 0
ShortestIsOne = (bytes : List ℕ) (value : ℕ) → IsDelta bytes value → IsShortest bytes → bytes ≡ shortest_delta value

-- one front of bytes spells a number at most, and it spells one number
abbrev pub DeltasAreUnambiguous : Type 0
DeltasAreUnambiguous =
    (a b rest others : List ℕ) (value other : ℕ) → IsDelta a value → IsDelta b other → a ++ rest ≡ b ++ others
    → (a ≡ b) × (value ≡ other)

-- what is read at the front of bytes is exactly the number that is spelled there
abbrev pub DeltasAreReadExactly : Type 0
DeltasAreReadExactly =
    (bytes rest : List ℕ) (value : ℕ)
    → (delta_at bytes ≡ Some (value, rest)) ↔ ((d : List ℕ) × (bytes ≡ d ++ rest) × IsDelta d value)
