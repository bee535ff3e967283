-- What follows the gates (AIGER report, AIGER 1.9; the spellings are this project's profile): lines that name inputs,
-- latches and the rest, and then a line `c` and the comment where there is one.
use Rattle.std.specs.Prelude.{◌≡◌, ◌++◌, ℕ, List, [], ◌∷◌, Option, None, Some, codes}
use Rattle.std.specs.List.{AllZip}
use Rattle.aig_circuit.specs.declared.circuit.Symbol.{Symbol}
use Rattle.aig_circuit.specs.declared.circuit.Circuit.{Circuit}
pub use Rattle.aig_circuit.specs.SymbolText.{kind_letter}
use Rattle.aig_lines.specs.Lines.{Line, bytes_of}
use Rattle.aig_rows.specs.Spelling.{IsNumber, IsLineEnd}

-- the letter, the position, exactly one space, and then the name, whatever it holds
pub record IsSymbolLine (l : Line) (s : Symbol) : Type 0 where
  pub digits : List ℕ
  pub text : l.text ≡ kind_letter s.kind ++ (digits ++ (codes " " ++ s.name))
  pub position : IsNumber digits s.position

-- the line `c`, which may end as a numbered line may
pub record IsCommentLine (l : Line) : Type 0 where
  pub ending : List ℕ
  pub text : l.text ≡ codes "c" ++ ending
  pub ends : IsLineEnd l.ended ending

-- no line and no comment, or the line `c` and every byte after it
abbrev pub IsComment : List Line → Option (List ℕ) → Type 0
IsComment [] None = Unit {0}
IsComment [] (Some bytes) = ⊥
IsComment (l ∷ ls) None = ⊥
IsComment (l ∷ ls) (Some bytes) = IsCommentLine l × (bytes ≡ bytes_of ls)

pub record AreTailLines (ls : List Line) (c : Circuit) : Type 0 where
  pub named : List Line
  pub rest : List Line
  pub are : ls ≡ named ++ rest
  pub symbols : AllZip IsSymbolLine named c.symbols
  pub comment : IsComment rest c.comment
