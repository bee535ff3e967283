-- Which texts are ASCII AIGER files of which circuits (AIGER report, with the lenient spellings and the limits of this
-- project's profile). A relation that knows of no reading from left to right.
use Rattle.std.specs.Prelude.{◌≡◌, ◌≤◌, ◌+◌, ℕ, List, ◌∷◌, ◌++◌, length}
use Rattle.std.specs.List.{AllByRecursion, AllZip, sum}
use Rattle.aig_circuit.specs.declared.circuit.Circuit.{Circuit}
use Rattle.aig_circuit.specs.Wellformed.{IsWellFormed}
use Rattle.aig_lines.specs.Lines.{Line, lines_of}
use Rattle.aig_rows.specs.Spelling.{EndInNumbers}
use Rattle.aig_text.specs.Tail.{AreTailLines}
use Rattle.aig_text.specs.Sections.{ascii_word, header_row, rows_of, least_header_numbers}
use Rattle.aig_rows.specs.Rows.{IsRowLine}

-- a line that begins with a word, and holds these numbers after it, and nothing else
pub record IsHeaderLine (word : List ℕ) (least : ℕ) (l : Line) (ns : List ℕ) : Type 0 where
  pub rest : List ℕ
  pub begins : l.text ≡ word ++ rest
  pub others : EndInNumbers least l.ended rest ns

pub record IsAsciiText (text : List ℕ) (limit : ℕ) (c : Circuit) : Type 0 where
  pub header : Line
  pub numbered : List Line
  pub tail : List Line
  -- The first line is the header, the next ones are the rows of the circuit, and the others are its tail.
  pub lines : lines_of text ≡ header ∷ (numbered ++ tail)
  pub is_header : IsHeaderLine ascii_word least_header_numbers header (header_row c)
  pub are_rows : AllZip IsRowLine numbered (rows_of c)
  pub is_tail : AreTailLines tail c
  -- The largest index, the counts and the sizes are within the limit, and the definitions fit below the largest index.
  pub limited : AllByRecursion (λ n. n ≤ limit) (header_row c)
  pub sizes_limited : sum c.justice.sizes ≤ limit
  pub counted : length c.inputs + length c.latches + length c.gates ≤ c.max_var
  pub well_formed : IsWellFormed c
