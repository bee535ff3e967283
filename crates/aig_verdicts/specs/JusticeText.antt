-- A witness file of a justice property as a whole (this project's profile): the texts of its lines, one after the
-- other, and what it says.
use Rattle.std.specs.Prelude.{◌≡◌, ◌<◌, ℕ, List, true, length, map}
use Rattle.std.specs.List.{AllByRecursion}
use Rattle.aig_circuit.specs.declared.circuit.Circuit.{Circuit}
use Rattle.aig_circuit.specs.declared.value.Val.{Val}
use Rattle.aig_meaning.specs.Trace.{IsFirstState}
use Rattle.aig_lines.specs.Lines.{lines_of}
use Rattle.aig_rows.specs.Spelling.{value_of as number_of}
use Rattle.aig_step.specs.Stimulus.{text_of}
use Rattle.aig_witness.specs.Witness.{Claim, is_canonical}
use Rattle.aig_witness.specs.WitnessText.{property_texts}

-- The bytes are a witness file of a justice property of the circuit, and this is what it says.
pub record IsJusticeFile (c : Circuit) (bytes : List ℕ) (claim : Claim) : Type 0 where
  pub digits : List ℕ
  pub canonical : is_canonical digits ≡ true
  pub number : number_of digits ≡ claim.property
  pub below : claim.property < length c.justice.sizes
  pub starts : IsFirstState c claim.first
  pub each : AllByRecursion (λ (given : List Val). length given ≡ length c.inputs) claim.steps
  pub texts : map text_of (lines_of bytes) ≡ property_texts 106 digits claim
