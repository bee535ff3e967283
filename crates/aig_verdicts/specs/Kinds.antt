-- Witness files of justice properties (this project's profile): like those of bad states, but the second line is `j`
-- with the number of a justice property. The second line of a file decides which of the two it is. Comments are passed
-- over, and counted with the lines.
use Rattle.std.specs.Prelude.{ℕ, List, [], ◌∷◌, Bool, true, false, Option, length, map, option_map}
use Rattle.aig_circuit.specs.declared.circuit.Circuit.{Circuit}
use Rattle.aig_circuit.specs.declared.circuit.Latch.{Latch}
use Rattle.aig_lines.specs.Lines.{Line}
use Rattle.aig_step.specs.Stimulus.{judged_lines, text_of}
use Rattle.aig_verdicts.specs.Comments.{begins_with, line_number, uncommented}
use Rattle.aig_witness.specs.Witness.{Claim, Says, Shape, first_bad_line, shape_of}

-- where there are so many justice properties
abbrev pub justice_shape : ℕ → Circuit → Shape
justice_shape justices c = record {
  letter = 106;
  properties = justices;
  resets = map (λ (l : Latch). l.reset) c.latches;
  inputs = length c.inputs;
}

-- the shape of a file of a justice property, or of a bad state
abbrev pub shape_if : ℕ → Circuit → Bool → Shape
shape_if justices c true = justice_shape justices c
shape_if justices c false = shape_of c

-- whether the second line begins with `j`
abbrev pub are_of_justice : List Line → Bool
are_of_justice [] = false
are_of_justice (one ∷ []) = false
are_of_justice (one ∷ two ∷ more) = begins_with 106 (text_of two)

abbrev pub is_of_justice : List ℕ → Bool → Bool
is_of_justice bytes ended = are_of_justice (judged_lines bytes ended)

-- the shape that the lines of a file have to have
abbrev pub shape_by : ℕ → Circuit → List ℕ → Bool → Shape
shape_by justices c bytes ended = shape_if justices c (is_of_justice bytes ended)

-- the number of the first line that is not as it has to be, or that is missing where the bytes have ended
abbrev pub first_bad_by : ℕ → Circuit → List ℕ → Bool → Option ℕ
first_bad_by justices c bytes ended =
    let said = uncommented bytes in
    option_map (line_number (judged_lines bytes ended)) (first_bad_line (shape_by justices c said ended) said ended)

abbrev pub first_bad_file_line : Circuit → List ℕ → Bool → Option ℕ
first_bad_file_line c bytes ended = first_bad_by (length c.justice.sizes) c bytes ended

-- the bytes are a witness file of a justice property of the circuit, which says this
abbrev pub SaysJustice : Circuit → List ℕ → Claim → Type 0
SaysJustice c bytes claim = Says (justice_shape (length c.justice.sizes) c) bytes claim
