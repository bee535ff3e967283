-- Which texts are binary AIGER files of which circuits (AIGER report, with the lenient spellings and the limits of this
-- project's profile). A relation that knows of no reading from left to right.
use Rattle.std.specs.Prelude.{◌≡◌, ◌≤◌, ◌-◌, ◌⊎◌, ℕ, List, [], ◌∷◌, ◌++◌, true, codes}
use Rattle.std.specs.List.{AllByRecursion, AllZip, sum}
use Rattle.aig_circuit.specs.declared.circuit.Gate.{Gate}
use Rattle.aig_circuit.specs.declared.circuit.Circuit.{Circuit}
use Rattle.aig_circuit.specs.Literal.{literal_of}
use Rattle.aig_circuit.specs.Wellformed.{IsWellFormed}
use Rattle.aig_lines.specs.Lines.{Line, lines_of}
use Rattle.aig_text.specs.AsciiGrammar.{IsHeaderLine}
use Rattle.aig_text.specs.Tail.{AreTailLines}
use Rattle.aig_text.specs.Sections.{listed_rows, in_binary, header_row, least_header_numbers}
use Rattle.aig_rows.specs.Rows.{Row, IsRowLine}
use Rattle.aig_checked.specs.BinaryOrder.{IsInBinaryOrder}
use Rattle.aig_binary.specs.Delta.{IsDelta}

-- the first word of a binary file
abbrev pub binary_word : List ℕ
binary_word = codes "aig"

-- the rows of the numbered lines: the next literal and the reset of each latch, and then the literals and sizes that
-- ASCII files list alike
abbrev pub binary_rows_of : Circuit → List Row
binary_rows_of c = listed_rows in_binary c

-- a gate is spelled as how much its first operand is below its own literal, and the second one below the first
pub record SpellsGate (bytes : List ℕ) (g : Gate) : Type 0 where
  pub first : List ℕ
  pub second : List ℕ
  pub are : bytes ≡ first ++ second
  pub left : IsDelta first (literal_of g.var - g.left)
  pub right : IsDelta second (g.left - g.right)

-- gates, one after the other
abbrev pub SpellsGates : List ℕ → List Gate → Type 0
SpellsGates bytes [] = bytes ≡ []
SpellsGates bytes (g ∷ gs) =
    (first : List ℕ) × (rest : List ℕ) × (bytes ≡ first ++ rest) × SpellsGate first g × SpellsGates rest gs

-- where something follows, each line before it has its line feed
abbrev pub EndsBefore : List Line → List ℕ → Type 0
EndsBefore ls following = (following ≡ []) ⊎ AllByRecursion (λ (l : Line). l.ended ≡ true) ls

pub record IsBinaryText (text : List ℕ) (limit : ℕ) (c : Circuit) : Type 0 where
  pub front : List ℕ
  pub gates : List ℕ
  pub rest : List ℕ
  pub header : Line
  pub numbered : List Line
  -- Lines stand in front, then the gates, and then the lines of the tail.
  pub text_is : text ≡ front ++ (gates ++ rest)
  pub lines : lines_of front ≡ header ∷ numbered
  pub cut : EndsBefore (header ∷ numbered) (gates ++ rest)
  pub is_header : IsHeaderLine binary_word least_header_numbers header (header_row c)
  pub are_rows : AllZip IsRowLine numbered (binary_rows_of c)
  pub are_gates : SpellsGates gates c.gates
  pub is_tail : AreTailLines (lines_of rest) c
  -- The largest index, the counts and the sizes are within the limit.
  pub limited : AllByRecursion (λ n. n ≤ limit) (header_row c)
  pub sizes_limited : sum c.justice.sizes ≤ limit
  pub ordered : IsInBinaryOrder c
  pub well_formed : IsWellFormed c
