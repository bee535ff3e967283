-- An unrolled circuit that is written frame by frame.
use Rattle.std.specs.Prelude.{◌≡◌, ◌+◌, ℕ, List, length}
use Rattle.std.specs.List.{flat_map}
use Rattle.aig_circuit.specs.declared.circuit.Circuit.{Circuit}
use Rattle.aig_circuit.specs.declared.circuit.Gate.{Gate}
use Rattle.aig_text.specs.AsciiText.{numbers_text}
use Rattle.aig_rows.specs.Rows.{gate_row, input_row, literal_row}
use Rattle.aig_unroll.specs.declared.writing.TheConstants.{PIECE}
use Rattle.aig_unroll.specs.Parts.Frames.{Frame}

-- How many gates there is room for: those of a piece of a frame's copies, and all that are after the copies.
abbrev pub gate_room : Circuit → ℕ
gate_room c = PIECE + length c.constraints + length c.bad

-- It is in frame 0, and there is room for the outputs and the bad states of a frame and for a piece of its gates.
pub record IsReadyToWrite (f : Frame) (outputs bad : List ℕ) (gates : List Gate) : Type 0 where
  pub first : f.frame ≡ 0
  pub outputs_fit : length outputs ≡ length f.circuit.outputs
  pub bad_fit : length bad ≡ length f.circuit.bad
  pub gates_fit : length gates ≡ gate_room f.circuit

-- the line of a literal that is listed by itself, and of a gate
abbrev pub literal_line : ℕ → List ℕ
literal_line literal = numbers_text (literal_row literal)

abbrev pub gate_line : Gate → List ℕ
gate_line gate = numbers_text (gate_row gate)

-- the lines of inputs, of literals that are listed by themselves, and of gates
abbrev pub input_lines : List ℕ → List ℕ
input_lines = flat_map (λ variable. numbers_text (input_row variable))

abbrev pub literal_lines : List ℕ → List ℕ
literal_lines = flat_map literal_line

abbrev pub gate_lines : List Gate → List ℕ
gate_lines = flat_map gate_line
