-- The canonical binary text of a circuit in binary order (this project's profile): canonical lines, and of each gate
-- the shortest spellings of its two deltas.
use Rattle.std.specs.Prelude.{◌-◌, ◌<◌, ◌≤◌, ℕ, List, ◌++◌}
use Rattle.std.specs.List.{flat_map}
use Rattle.aig_circuit.specs.declared.circuit.Gate.{Gate}
use Rattle.aig_circuit.specs.declared.circuit.Circuit.{Circuit}
use Rattle.aig_circuit.specs.declared.circuit.TheConstants.{LARGEST}
use Rattle.aig_circuit.specs.Literal.{literal_of}
use Rattle.aig_text.specs.Sections.{header_row}
use Rattle.aig_text.specs.AsciiText.{header_text, line_text, tail_text}
use Rattle.aig_binary.specs.BinaryGrammar.{binary_word, binary_rows_of}
use Rattle.aig_binary.specs.Delta.{shortest_delta}

-- how much each literal is below the one before it is a number below 2^32
pub record HasDeltas (g : Gate) : Type 0 where
  pub small : g.var ≤ LARGEST
  pub first : g.left < literal_of g.var
  pub second : g.right ≤ g.left

abbrev pub gate_text : Gate → List ℕ
gate_text g = shortest_delta (literal_of g.var - g.left) ++ shortest_delta (g.left - g.right)

unfoldable pub binary_text : Circuit → List ℕ
binary_text c =
    header_text binary_word (header_row c)
    ++ (flat_map line_text (binary_rows_of c) ++ (flat_map gate_text c.gates ++ tail_text c))
