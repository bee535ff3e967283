-- Symbols whose lines stand in one list of bytes.
use Rattle.std.specs.Prelude.{◌≡◌, ◌≤◌, ℕ, List, map, length, slice_range}
use Rattle.std.specs.List.{AllByRecursion, flat_map}
use Rattle.aig_circuit.specs.declared.circuit.Symbol.{Symbol}
use Rattle.aig_circuit.specs.declared.symbols.StoredSymbol.{StoredSymbol}
use Rattle.aig_circuit.specs.SymbolText.{symbol_text}

-- the symbol that a row says: its name stands among the bytes
abbrev pub symbol_in : List ℕ → StoredSymbol → Symbol
symbol_in bytes row = record {
  kind = row.kind;
  position = row.position;
  name = slice_range bytes row.start row.end;
}

abbrev pub symbols_in : List ℕ → List StoredSymbol → List Symbol
symbols_in bytes rows = map (symbol_in bytes) rows

-- the name stands among so many bytes
abbrev pub IsWithin : ℕ → StoredSymbol → Type 0
IsWithin size row = (row.start ≤ row.end) × (row.end ≤ size)

-- each name stands among the bytes
abbrev pub AreWithin : List ℕ → List StoredSymbol → Type 0
AreWithin bytes rows = AllByRecursion (IsWithin (length bytes)) rows

-- the bytes are the lines of the symbols
abbrev pub AreLines : List ℕ → List StoredSymbol → Type 0
AreLines bytes rows = AreWithin bytes rows × (flat_map symbol_text (symbols_in bytes rows) ≡ bytes)
