-- What stands in a line of the tail, read from left to right.
use Rattle.std.specs.Prelude.{◌==◌, ◌&&◌, ℕ, List, [], ◌∷◌, Bool, false, Option, None, Some, if◌then◌else◌}
use Rattle.aig_circuit.specs.declared.circuit.Kind.{Kind}
use Rattle.aig_circuit.specs.declared.circuit.Kind.TheVariants.{Input, Latch, Output, Bad, Constraint, Justice}
use Rattle.aig_circuit.specs.declared.circuit.Kind.TheVariants.{Fairness}
use Rattle.aig_circuit.specs.declared.circuit.Symbol.{Symbol}
use Rattle.aig_lines.specs.Lines.{Line}
use Rattle.aig_rows.specs.Scanning.{is_line_end, number_at, ◌>>=◌}

-- what the letter at the front of a symbol line names
abbrev pub kind_at : ℕ → Option Kind
kind_at b =
    if b == 105 then Some Input else if b == 108 then Some Latch else if b == 111 then Some Output
    else if b == 98 then Some Bad else if b == 99 then Some Constraint else if b == 106 then Some Justice
    else if b == 102 then Some Fairness else None

-- what follows one space
abbrev pub after_space : List ℕ → Option (List ℕ)
after_space [] = None
after_space (b ∷ bytes) = if b == 32 then Some bytes else None

abbrev pub symbol : Kind → ℕ → List ℕ → Symbol
symbol kind position name = record { kind = kind; position = position; name = name }

-- a symbol: the letter, the position, one space, and all the rest as its name
unfoldable pub symbol_at : List ℕ → Option Symbol
symbol_at [] = None
symbol_at (b ∷ bytes) = do
  kind ← kind_at b
  position ← number_at bytes
  name ← after_space position.1
  Some (symbol kind position.0 name)

abbrev pub begins_comment : Bool → List ℕ → Bool
begins_comment ended [] = false
begins_comment ended (b ∷ bytes) = (b == 99) && is_line_end ended bytes

-- whether a line is the line `c`
unfoldable pub is_comment_line : Line → Bool
is_comment_line l = begins_comment l.ended l.text
