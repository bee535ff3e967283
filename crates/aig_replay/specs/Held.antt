-- A witness that is held as characters, and the claim that they are.
use Rattle.std.specs.Prelude.{◌+◌, ◌*◌, ◌≤◌, ◌==◌, ℕ, zero, suc, List, [], ◌∷◌, drop, length, map, take}
use Rattle.std.specs.Prelude.{if◌then◌else◌}
use Rattle.aig_circuit.specs.declared.value.Val.{Val}
use Rattle.aig_circuit.specs.declared.value.Val.TheVariants.{Zero, One, X}
use Rattle.aig_witness.specs.Witness.{Claim}
use Rattle.aig_replay.specs.Starting.{AreBits}

abbrev pub value_held : ℕ → Val
value_held byte = if byte == 48 then Zero else if byte == 49 then One else X

-- so many steps of so many inputs
abbrev pub steps_held : ℕ → ℕ → List ℕ → List (List Val)
steps_held inputs zero bytes = []
steps_held inputs (suc n) bytes = map value_held (take inputs bytes) ∷ steps_held inputs n (drop inputs bytes)

abbrev pub claim_held : ℕ → List ℕ → ℕ → ℕ → List ℕ → Claim
claim_held property first inputs count steps = record {
  property = property;
  first = map value_held first;
  steps = steps_held inputs count steps;
}

-- the characters are 0 and 1, and those of all steps are there, after so many that the first state used
pub record HoldsClaim (first bits : List ℕ) (used inputs count : ℕ) : Type 0 where
  pub first_bits : AreBits first
  pub step_bits : AreBits bits
  pub room : used + count * inputs ≤ length bits
