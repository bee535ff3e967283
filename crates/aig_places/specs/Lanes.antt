-- Up to 256 runs side by side, a lane for each. A plane has a bit for each lane, in four words of 64. A table has for
-- each literal the plane of those lanes in which the literal may be 1, so that the negation of a variable, the plane
-- after its own, tells where the variable may be 0.
use Rattle.std.specs.Prelude.{◌≡◌, ◌/◌, ◌%◌, ◌==◌, ℕ, List, [], ◌∷◌, if◌then◌else◌, length, map, slice_index_or}
use Rattle.std.specs.Int.{bit_at}
use Rattle.std.specs.List.{All}
use Rattle.aig_circuit.specs.declared.value.Val.{Val}
use Rattle.aig_circuit.specs.declared.value.Val.TheVariants.{Zero, One, X}
use Rattle.aig_circuit.specs.Values.{value_not}

-- the bit of a lane
abbrev pub bit_in : ℕ → List ℕ → ℕ
bit_in lane plane = bit_at (slice_index_or plane (lane / 64) 0) (lane % 64)

abbrev pub may_be_one : Val → ℕ
may_be_one Zero = 0
may_be_one One = 1
may_be_one X = 1

-- whether each literal over variables with these values may be 1
abbrev pub bits_of_values : List Val → List ℕ
bits_of_values [] = []
bits_of_values (v ∷ vs) = may_be_one v ∷ may_be_one (value_not v) ∷ bits_of_values vs

-- the values of variables, where these bits tell whether each literal over them may be 1
abbrev pub values_by_bits : List ℕ → List Val
values_by_bits [] = []
values_by_bits (high ∷ []) = []
values_by_bits (high ∷ low ∷ bits) = (if low == 0 then One else if high == 0 then Zero else X) ∷ values_by_bits bits

-- the values of variables in this lane
abbrev pub values_in : (lane : ℕ) → (planes : List (List ℕ)) → List Val
values_in lane planes = values_by_bits (map (bit_in lane) planes)

-- it has a bit for each lane
abbrev pub IsPlane : List ℕ → Type 0
IsPlane plane = length plane ≡ 4

-- in this lane the variables have these values
pub record IsLane (lane : ℕ) (planes : List (List ℕ)) (values : List Val) : Type 0 where
  pub whole : All IsPlane planes
  pub bits : map (bit_in lane) planes ≡ bits_of_values values

-- the planes of a literal and of its negation: in this lane the literal has this value
pub record IsPair (lane : ℕ) (one zero : List ℕ) (x : Val) : Type 0 where
  pub one_plane : IsPlane one
  pub zero_plane : IsPlane zero
  pub one_bit : bit_in lane one ≡ may_be_one x
  pub zero_bit : bit_in lane zero ≡ may_be_one (value_not x)
