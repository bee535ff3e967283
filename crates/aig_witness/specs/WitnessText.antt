-- A witness file as a whole (this project's profile): the texts of its lines, one after the other, and what it says.
use Rattle.std.specs.Prelude.{◌≡◌, ◌<◌, ◌++◌, ℕ, List, [], ◌∷◌, true, codes, length, map}
use Rattle.std.specs.List.{AllByRecursion}
use Rattle.aig_circuit.specs.declared.circuit.Circuit.{Circuit}
use Rattle.aig_circuit.specs.declared.value.Val.{Val}
use Rattle.aig_meaning.specs.Trace.{IsFirstState}
use Rattle.aig_lines.specs.Lines.{lines_of}
use Rattle.aig_rows.specs.Spelling.{value_of as number_of}
use Rattle.aig_step.specs.Stimulus.{text_of}
use Rattle.aig_step.specs.TraceText.{values_text}
use Rattle.aig_witness.specs.Witness.{Claim, is_canonical}

-- the texts of its lines, where this letter and these digits name the property
abbrev pub property_texts : ℕ → List ℕ → Claim → List (List ℕ)
property_texts letter digits claim =
    codes "1" ∷ (letter ∷ digits) ∷ values_text claim.first ∷ (map values_text claim.steps ++ codes "." ∷ [])

-- where these digits are the number of the bad state
abbrev pub witness_texts : List ℕ → Claim → List (List ℕ)
witness_texts digits claim = property_texts 98 digits claim

-- The bytes are a witness file of the circuit, and this is what it says.
pub record IsWitnessFile (c : Circuit) (bytes : List ℕ) (claim : Claim) : Type 0 where
  pub digits : List ℕ
  pub canonical : is_canonical digits ≡ true
  pub number : number_of digits ≡ claim.property
  pub below : claim.property < length c.bad
  pub starts : IsFirstState c claim.first
  pub each : AllByRecursion (λ (given : List Val). length given ≡ length c.inputs) claim.steps
  pub texts : map text_of (lines_of bytes) ≡ witness_texts digits claim
