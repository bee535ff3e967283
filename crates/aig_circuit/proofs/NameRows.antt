-- Rows of symbols, whose lines stand one after the other: what bytes after them change, and one row more.
use Rattle.std.proofs.Common.{◌≡◌, ◌≤◌, ◌-◌, ◌∷◌, ◌++◌, ◌∙◌, ◌+◌, ℕ, List, [], length, drop, take, ap, ap₂, refl, arith}
use Rattle.std.proofs.Common.{append_assoc, append-nil, decimal, sym, flat_map, slice_range, length-drop, length-append}
use Rattle.std.proofs.Common.{drop_at, take_all}
use Rattle.std.proofs.lemmas.List.{drop-append-le, take-append-le, map-append}
use Rattle.std.proofs.lemmas.Grind.{flat_map-append}
use Rattle.aig_circuit.specs.declared.circuit.Kind.{Kind}
use Rattle.aig_circuit.specs.declared.circuit.Symbol.{Symbol}
use Rattle.aig_circuit.specs.declared.symbols.StoredSymbol.{StoredSymbol}
use Rattle.aig_circuit.specs.SymbolText.{kind_letter, symbol_text}
use Rattle.aig_circuit.specs.Symbols.{symbol_in, symbols_in, IsWithin, AreWithin, AreLines}

abbrev pub symbol_of : Kind → ℕ → List ℕ → Symbol
symbol_of kind position name = record { kind = kind; position = position; name = name }

-- bytes after a name do not change it
same_name : (bytes more : List ℕ) (start end : ℕ) → start ≤ end → end ≤ length bytes
    → slice_range (bytes ++ more) start end ≡ slice_range bytes start end
same_name bytes more start end rising within =
    ap (take (end - start)) (drop-append-le start bytes more (omega (arith, rising, within)))
    ∙ take-append-le (end - start) (drop start bytes) more
    (let left = length-drop start bytes in omega (arith, left, rising, within))

same_symbol : (bytes more : List ℕ) (row : StoredSymbol) → IsWithin (length bytes) row
    → symbol_in (bytes ++ more) row ≡ symbol_in bytes row
same_symbol bytes more row h =
    ap (symbol_of row.kind row.position) (same_name bytes more row.start row.end h.0 h.1)

-- nor the symbols before them
pub same_symbols : (bytes more : List ℕ) (rows : List StoredSymbol) → AreWithin bytes rows
    → symbols_in (bytes ++ more) rows ≡ symbols_in bytes rows
same_symbols bytes more [] h = refl
same_symbols bytes more (row ∷ rows) h =
    ap₂ (λ s ss. s ∷ ss) (same_symbol bytes more row h.0) (same_symbols bytes more rows h.1)

-- names stay within the bytes where these grow
pub still_within : (bytes more : List ℕ) (rows : List StoredSymbol) → AreWithin bytes rows
    → AreWithin (bytes ++ more) rows
still_within bytes more [] h = tt
still_within bytes more (row ∷ rows) h =
    ((h.0.0, let all = length-append bytes more in omega (arith, all, h.0.1)), still_within bytes more rows h.1)

one_within : (bytes : List ℕ) (rows : List StoredSymbol) (row : StoredSymbol) → AreWithin bytes rows
    → IsWithin (length bytes) row
    → AreWithin bytes (rows ++ row ∷ [])
one_within bytes [] row h one = (one, tt)
one_within bytes (r ∷ rows) row h one = (h.0, one_within bytes rows row h.1 one)

abbrev row_of : Kind → ℕ → ℕ → ℕ → StoredSymbol
row_of kind position start end = record { kind = kind; position = position; start = start; end = end }

-- what stands before the name in the line of a symbol
abbrev front : Symbol → List ℕ
front s = kind_letter s.kind ++ (decimal s.position ++ 32 ∷ [])

in_line : (bytes : List ℕ) (s : Symbol) → bytes ++ symbol_text s ≡ (bytes ++ front s) ++ (s.name ++ 10 ∷ [])
in_line bytes s = simp append_assoc

name_between : (before name behind : List ℕ) (start end : ℕ) → start ≡ length before → end ≡ start + length name
    → slice_range (before ++ (name ++ behind)) start end ≡ name
name_between before name behind start end begins ends =
    ap₂ take (let size : end - start ≡ length name = omega (arith, ends) in size)
    (drop_at before (name ++ behind) start (sym begins))
    ∙ take-append-le (length name) name behind (omega arith)
    ∙ take_all (length name) name (omega arith)

-- one row more, of a line that is put after the bytes
module _ (s : Symbol) (bytes line : List ℕ) (rows : List StoredSymbol) (are : AreLines bytes rows)
    (is : line ≡ symbol_text s) (all : ℕ) (all_is : all ≡ length (bytes ++ line)) where
  abbrev end : ℕ
  end = all - 1

  abbrev start : ℕ
  start = end - length s.name

  size : length (bytes ++ line) ≡ length (bytes ++ front s) + (length s.name + 1)
  size =
      ap (λ (l : List ℕ). length (bytes ++ l)) is ∙ ap length (in_line bytes s)
      ∙ length-append (bytes ++ front s) (s.name ++ 10 ∷ [])
      ∙ ap (λ (n : ℕ). length (bytes ++ front s) + n) (length-append s.name (10 ∷ []))

  own_name : slice_range (bytes ++ line) start end ≡ s.name
  own_name =
      ap (λ (l : List ℕ). slice_range (bytes ++ l) start end) is
      ∙ ap (λ (l : List ℕ). slice_range l start end) (in_line bytes s)
      ∙ name_between (bytes ++ front s) s.name (10 ∷ []) start end (omega (arith, size, all_is))
      (omega (arith, size, all_is))

  last_within : AreWithin (bytes ++ line) (rows ++ row_of s.kind s.position start end ∷ [])
  last_within =
      one_within (bytes ++ line) rows (row_of s.kind s.position start end) (still_within bytes line rows are.0)
      (omega arith, omega (arith, all_is))

  pub one_more : symbols_in (bytes ++ line) (rows ++ row_of s.kind s.position start end ∷ [])
      ≡ symbols_in bytes rows ++ s ∷ []
  one_more =
      map-append (symbol_in (bytes ++ line)) rows (row_of s.kind s.position start end ∷ [])
      ∙ ap₂ (λ ss n. ss ++ symbol_of s.kind s.position n ∷ []) (same_symbols bytes line rows are.0) own_name

  pub lines_more : AreLines (bytes ++ line) (rows ++ row_of s.kind s.position start end ∷ [])
  lines_more = (
    last_within,
    ap (flat_map symbol_text) one_more ∙ flat_map-append symbol_text (symbols_in bytes rows) (s ∷ [])
        ∙ ap₂ (λ (a b : List ℕ). a ++ b) are.1 (append-nil (symbol_text s) ∙ sym is),
  )
