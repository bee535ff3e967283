-- Symbols that words tell, and the other way round.
use Rattle.std.proofs.Common.{◌≡◌, ◌≤◌, ◌∷◌, ◌++◌, ◌∙◌, ◌+◌, ◌-◌, ◌&&◌, ◌==◌, ℕ, zero, suc, true, false}
use Rattle.std.proofs.Common.{List, [], length, take, drop, Bool, cond, not, Option, None, Some, Result, Ok, refl, ap}
use Rattle.std.proofs.Common.{sym, arith, inl, inr, rules, subst, append_assoc, append-nil, flat_map, slice_range}
use Rattle.std.proofs.Common.{nat_le, eqb-true, eq-eqb, leb-true, le-leb}
use Rattle.std.specs.List.{AllByRecursion, list_any}
use Rattle.std.specs.Option.{option_map}
use Rattle.std.proofs.Math.Seq.{take-append_seam, drop-append_seam}
use Rattle.std.proofs.lemmas.Bool.{and_parts, or_parts, or_from, eqb-false, ne_eqb, not-true}
use Rattle.std.proofs.lemmas.List.{drop-drop, length-append, length-drop, length-take-le}
use Rattle.std.proofs.lemmas.List.Folds.{drop_split}
use Rattle.aig_circuit.specs.declared.circuit.Circuit.{Circuit}
use Rattle.aig_circuit.specs.declared.circuit.Kind.{Kind}
use Rattle.aig_circuit.specs.declared.circuit.Kind.TheVariants as kinds
use Rattle.aig_circuit.specs.declared.circuit.Symbol.{Symbol}
use Rattle.aig_circuit.specs.Wellformed.{IsAmong, line_feed}
use Rattle.aig_core.specs.declared.names.Names.{Names}
use Rattle.aig_core.specs.Names.{with_name}
use Rattle.aig_rows.proofs.Steps.{both_ok, ok_same}
use Rattle.aig_text.specs.Reading.{checked_symbol, with_symbol}
use Rattle.aig_text.specs.declared.header_line.Header.{Header}
use Rattle.aig_text.proofs.Grammar.Symbols.{AreNew}
use Rattle.aig_text.proofs.Grammar.Tail.{checked_tells, new_is_checked}
use Rattle.aig_arrays.specs.Decoded.{Ahead, is_name, kind_decoded, next_symbol, symbol_decoded, symbols_decoded}
use Rattle.aig_arrays.specs.Words.{kind_word, symbol_row, symbol_words}
use Rattle.aig_fault.specs.declared.stopped.Stopped.{Stopped}
use Rattle.aig_arrays.proofs.Grammar.Rows.{ahead, first_decoded, tells_first}

-- the names of symbols
abbrev pub names_in : List Symbol → List ℕ
names_in ss = flat_map (λ (s : Symbol). s.name) ss

kind_back : (w : ℕ) (k : Kind) → kind_decoded w ≡ Some k → kind_word k ≡ w
kind_back w k h = search (rules, eqb-true)

kind_again : (k : Kind) → kind_decoded (kind_word k) ≡ Some k
kind_again kinds.Input = refl
kind_again k = refl

-- a list without a number
none_any : (x : ℕ) (xs : List ℕ) → list_any (λ b. b == x) xs ≡ false → ¬ IsAmong x xs
none_any x [] h = λ a. a
none_any x (y ∷ ys) h =
    let p = or_parts (y == x) (list_any (λ b. b == x) ys) h in
    λ a. elim a as (λ _. ⊥) [ inl e ↦ eqb-false y x p.0 (sym e) | inr r ↦ none_any x ys p.1 r ]

any_none : (x : ℕ) (xs : List ℕ) → ¬ IsAmong x xs → list_any (λ b. b == x) xs ≡ false
any_none x [] h = refl
any_none x (y ∷ ys) h =
    or_from (y == x) (list_any (λ b. b == x) ys) (ne_eqb y x (λ e. h (inl (sym e)))) (any_none x ys (λ a. h (inr a)))

-- a symbol that four words tell
record IsDecodedSymbol (names : List ℕ) (start : ℕ) (row : List ℕ) (s : Symbol) : Type 0 where
  pub words : row ≡ symbol_row start s
  pub names_are : drop start names ≡ s.name ++ drop (start + length s.name) names
  pub within : start + length s.name ≤ length names
  pub line : ¬ IsAmong line_feed s.name

none_passed : {A : Type 0} (b : Bool) (o : Option A) (x : A) → cond b o None ≡ Some x → (b ≡ true) × (o ≡ Some x)
none_passed true o x h = (refl, h)
none_passed false o x h = cc

mapped : {A B : Type 0} (f : A → B) (o : Option A) (y : B) → option_map f o ≡ Some y
    → (x : A) × (o ≡ Some x) × (f x ≡ y)
mapped f None y h = cc
mapped f (Some x) y h = (x, refl, cc)

symbol_tells : (names : List ℕ) (start : ℕ) (row : List ℕ) (s : Symbol) → length row ≡ 4
    → symbol_decoded names start row ≡ Some s → IsDecodedSymbol names start row s
symbol_tells names start (k ∷ p ∷ o ∷ l ∷ []) s long h =
    let row : List ℕ = k ∷ p ∷ o ∷ l ∷ [] in
    let end : ℕ = start + l in
    let name : List ℕ = slice_range names start end in
    let symbol : Kind → Symbol = λ kind. record { kind = kind; position = p; name = name } in
    let b = none_passed (is_name names start row) (option_map symbol (kind_decoded k)) s h in
    let m = mapped symbol (kind_decoded k) s b.1 in
    let t =
    and_parts ((o == start) && nat_le end (length names)) (not (list_any (λ x. x == line_feed) name)) b.0 in
    let u = and_parts (o == start) (nat_le end (length names)) t.0 in
    let at_start : o ≡ start = eqb-true o start u.0 in
    let fits : end ≤ length names = leb-true end (length names) u.1 in
    let left : length (drop start names) ≡ length names - start = length-drop start names in
    let whole : end - start ≡ l = omega arith in
    let long_name : length name ≡ l =
    length-take-le (end - start) (drop start names) (omega (arith, left, fits)) ∙ whole in
    subst (IsDecodedSymbol names start row) m.2 (record {
      words = rw (kind_back k m.0 m.1, long_name, at_start) refl;
      names_are =
          drop_split names start end (omega arith)
          ∙ ap (λ (n : ℕ). name ++ drop (start + n) names) (sym long_name);
      within = omega (arith, fits, long_name);
      line = none_any line_feed name (not-true (list_any (λ x. x == line_feed) name) t.1);
    })
symbol_tells names start row s long h = absurd (omega arith)

-- and four such words tell it
symbol_is_decoded : (names more : List ℕ) (start : ℕ) (s : Symbol) → start ≤ length names
    → drop start names ≡ s.name ++ more → ¬ IsAmong line_feed s.name
    → symbol_decoded names start (symbol_row start s) ≡ Some s
symbol_is_decoded names more start s low are line =
    let end : ℕ = start + length s.name in
    let left : length names - start ≡ length s.name + length more =
    sym (length-drop start names) ∙ ap length are ∙ length-append s.name more in
    let fits : end ≤ length names = omega (arith, left, low) in
    let whole : end - start ≡ length s.name = omega arith in
    let name : slice_range names start end ≡ s.name =
    ap (λ (n : ℕ). take n (drop start names)) whole ∙ ap (take (length s.name)) are
    ∙ take-append_seam s.name more in
    rw (
      eq-eqb start start refl,
      le-leb end (length names) fits,
      name,
      any_none line_feed s.name line,
      kind_again s.kind,
    ) refl

-- the circuit with these symbols more
abbrev pub with_symbols : Circuit → List Symbol → Circuit
with_symbols c ss = record c { symbols = c.symbols ++ ss }

-- words that are so many symbols, and others, where the names of these stand end to end
pub record AreSymbolsFirst (h : Header) (names : List ℕ) (before : Names) (start count : ℕ) (words : List ℕ)
    (c : Circuit) (p : Circuit × ℕ) : Type 0 where
  pub symbols : List Symbol
  pub rest : List ℕ
  pub words_are : words ≡ symbol_words start symbols ++ rest
  pub new : AreNew h before symbols
  pub lines : AllByRecursion (λ (s : Symbol). ¬ IsAmong line_feed s.name) symbols
  pub names_are : drop start names ≡ names_in symbols ++ drop p.1 names
  pub counted : length symbols ≡ count
  pub circuit : with_symbols c symbols ≡ p.0

abbrev then_symbols : Header → List ℕ → Names → ℕ → ℕ → Circuit → Symbol × Ahead → Result (Circuit × ℕ) Stopped
then_symbols h names before start count c found =
    symbols_decoded h names (with_name before found.0.kind found.0.position) (start + length found.0.name) count found.1
    (with_symbol c found.0)

pub symbols_found : (h : Header) (names : List ℕ) (before : Names) (start count : ℕ) (a : Ahead) (c : Circuit)
    (p : Circuit × ℕ) → symbols_decoded h names before start count a c ≡ Ok p
    → AreSymbolsFirst h names before start count a.words c p
unfolding symbols_decoded symbol_words
symbols_found h names before start zero a c p is =
    subst (AreSymbolsFirst h names before start zero a.words c) (ok_same {E = Stopped} (c, start) p is) (record {
      symbols = [];
      rest = a.words;
      words_are = refl;
      new = tt;
      lines = tt;
      names_are = refl;
      counted = refl;
      circuit = ap (λ (ss : List Symbol). record c { symbols = ss }) (append-nil c.symbols);
    })
symbols_found h names before start (suc count) a c p is =
    let f = both_ok (next_symbol h names before start a) (then_symbols h names before start count c) p is in
    let s : Symbol = f.0.0 in
    let t = first_decoded 4 (λ row. checked_symbol h before (symbol_decoded names start row)) a f.0 f.1 in
    let good = checked_tells h before (symbol_decoded names start t.first) s t.tells in
    let decoded = symbol_tells names start t.first s t.counted good.0 in
    let o =
    symbols_found h names (with_name before s.kind s.position) (start + length s.name) count f.0.1 (with_symbol c s) p
    f.2 in
    record {
      symbols = s ∷ o.symbols;
      rest = o.rest;
      words_are =
          t.words ∙ ap (λ (ws : List ℕ). t.first ++ ws) o.words_are
          ∙ ap (λ (ws : List ℕ). ws ++ (symbol_words (start + length s.name) o.symbols ++ o.rest)) decoded.words;
      new = (good.1.0, good.1.1, o.new);
      lines = (decoded.line, o.lines);
      names_are =
          decoded.names_are ∙ ap (λ (ns : List ℕ). s.name ++ ns) o.names_are
          ∙ sym (append_assoc s.name (names_in o.symbols) (drop p.1 names));
      counted = ap suc o.counted;
      circuit =
          ap (λ (ss : List Symbol). record c { symbols = ss }) (sym (append_assoc c.symbols (s ∷ []) o.symbols))
          ∙ o.circuit;
    }

-- and such words are decoded
pub symbols_are_decoded : (h : Header) (names more : List ℕ) (before : Names) (start at : ℕ) (rest : List ℕ)
    (ss : List Symbol) (c : Circuit) → start ≤ length names → drop start names ≡ names_in ss ++ more
    → AreNew h before ss → AllByRecursion (λ (s : Symbol). ¬ IsAmong line_feed s.name) ss
    → symbols_decoded h names before start (length ss) (ahead at (symbol_words start ss ++ rest)) c
    ≡ Ok (with_symbols c ss, start + length (names_in ss))
unfolding symbols_decoded symbol_words
symbols_are_decoded h names more before start at rest [] c low are new lines =
    let none : start ≡ start + length (names_in []) = omega arith in
    ap (λ (ss : List Symbol). Ok (record c { symbols = ss }, start)) (sym (append-nil c.symbols))
    ∙ ap (λ (n : ℕ). Ok (with_symbols c [], n)) none
symbols_are_decoded h names more before start at rest (s ∷ ss) c low are new lines =
    let next : ℕ = start + length s.name in
    let first = are ∙ append_assoc s.name (names_in ss) more in
    let decoded =
    ap (checked_symbol h before) (symbol_is_decoded names (names_in ss ++ more) start s low first lines.0)
    ∙ new_is_checked h before s (new.0, new.1) in
    let one =
    tells_first 4 (λ row. checked_symbol h before (symbol_decoded names start row)) at (symbol_row start s)
    (symbol_words next ss ++ rest) s refl decoded in
    let left : length names - start ≡ length s.name + length (names_in ss ++ more) =
    sym (length-drop start names) ∙ ap length first ∙ length-append s.name (names_in ss ++ more) in
    let behind : drop next names ≡ names_in ss ++ more =
    sym (drop-drop (length s.name) start names) ∙ ap (drop (length s.name)) first
    ∙ drop-append_seam s.name (names_in ss ++ more) in
    let all : next + length (names_in ss) ≡ start + length (s.name ++ names_in ss) =
    omega (arith, length-append s.name (names_in ss)) in
    rw one (
    symbols_are_decoded h names more (with_name before s.kind s.position) next (at + 4) rest ss (with_symbol c s)
    (omega (arith, left, low)) behind new.2 lines.1
    ∙ ap (λ (ts : List Symbol). Ok (record c { symbols = ts }, next + length (names_in ss)))
    (append_assoc c.symbols (s ∷ []) ss)
    ∙ ap (λ (n : ℕ). Ok (with_symbols c (s ∷ ss), n)) all
    )
