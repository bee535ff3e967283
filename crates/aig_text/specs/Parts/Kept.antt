-- Symbols as the reader keeps them.
use Rattle.std.specs.Prelude.{ℕ, List, Option, None, Some}
use Rattle.aig_circuit.specs.declared.circuit.Symbol.{Symbol}
use Rattle.aig_rows.specs.Kept.{kept}
use Rattle.aig_rows.specs.Scanning.{number_at, ◌>>=◌}
use Rattle.aig_text.specs.Scanning.{after_space}

-- the number at the front, and what stands after the one space that follows it
unfoldable pub position_at : List ℕ → Option (ℕ × List ℕ)
position_at bytes = do
  position ← number_at bytes
  name ← after_space position.1
  Some (position.0, name)

-- what is kept of a symbol
abbrev pub kept_symbol : Option Symbol → Option Symbol
kept_symbol None = None
kept_symbol (Some s) = Some (record s { position = kept s.position })
