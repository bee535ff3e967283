-- From the values of an answer, as characters, to a run.
use Rattle.std.specs.Prelude.{◌≡◌, ◌⊎◌, ◌+◌, ◌-◌, ◌==◌, ℕ, List, [], ◌∷◌, Bool, slice_index_or}
use Rattle.std.specs.List.{AllByRecursion}
use Rattle.aig_circuit.specs.declared.circuit.Reset.{Reset}
use Rattle.aig_circuit.specs.declared.circuit.Reset.TheVariants as resets

-- each is `0` or `1`
abbrev pub AreBits : List ℕ → Type 0
AreBits bits = AllByRecursion (λ b. (b ≡ 48) ⊎ (b ≡ 49)) bits

-- the assignment that they give: the first is the value of variable 1
abbrev pub assigned : List ℕ → ℕ → Bool
assigned bits v = slice_index_or bits (v - 1) 48 == 49

-- the character of a latch's first value, where so many values were used: an uninitialised one has the next
abbrev pub first_character : List ℕ → ℕ → Reset → ℕ
first_character bits used resets.Zero = 48
first_character bits used resets.One = 49
first_character bits used resets.Uninit = slice_index_or bits used 48

-- how many values it uses
abbrev pub used_by : Reset → ℕ
used_by resets.Zero = 0
used_by resets.One = 0
used_by resets.Uninit = 1

-- the characters of a first state
abbrev pub first_characters : List ℕ → ℕ → List Reset → List ℕ
first_characters bits used [] = []
first_characters bits used (r ∷ rs) = first_character bits used r ∷ first_characters bits (used + used_by r) rs
