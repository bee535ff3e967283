-- Symbols, sections and the whole circuit: what is left tells what all of it tells.
use Rattle.std.proofs.Common.{◌≡◌, ◌<◌, ◌≤◌, ◌∷◌, ◌∙◌, ◌+◌, ◌-◌, ◌⊎◌, ℕ, suc, true, false, List, [], length, drop}
use Rattle.std.proofs.Common.{get_or, drop-cons, slice_range, None, Some, Result, Ok, Err, refl, ap, sym, arith, inl}
use Rattle.std.proofs.Common.{inr}
use Rattle.aig_circuit.specs.declared.circuit.Circuit.{Circuit}
use Rattle.aig_circuit.specs.declared.circuit.Symbol.{Symbol}
use Rattle.aig_core.specs.Fault.{IsFault, first_structural_fault}
use Rattle.aig_core.specs.Names.{with_name}
use Rattle.aig_fault.specs.declared.stopped.Stopped.{Stopped}
use Rattle.aig_core.specs.declared.names.Names.{Names}
use Rattle.aig_rows.specs.Reading.{unless_wrong}
use Rattle.aig_rows.proofs.Steps.{ok_same}
use Rattle.aig_fault.specs.declared.kind.Kind.{Kind}
use Rattle.aig_fault.specs.declared.kind.Kind.TheVariants as kinds
use Rattle.aig_text.specs.Reading.{checked_symbol, empty_circuit, fault_in_symbol, with_symbol}
use Rattle.aig_text.specs.Sections.{in_ascii}
use Rattle.aig_text.specs.declared.section.Section.{Section}
use Rattle.aig_text.specs.declared.section.Section.TheVariants.{Inputs}
use Rattle.std.proofs.Math.ListN.{drop_of_length-le}
use Rattle.aig_text.specs.declared.header_line.Header.{Header}
use Rattle.aig_fault.specs.declared.stopped.Stopped.TheVariants.{OutOfMemory}
use Rattle.aig_arrays.specs.Decoded.{Ahead, IsFirstFault, counts_fit, entries_decoded, section_decoded}
use Rattle.aig_arrays.specs.Decoded.{sections_decoded}
use Rattle.aig_arrays.specs.Decoded.{decoded, next_symbol, symbol_decoded, symbols_decoded, with_entries}
use Rattle.aig_arrays.specs.Words.{Counts}
use Rattle.aig_fault.specs.declared.stopped.Stopped.{Stopped}
use Rattle.aig_arrays.specs.Decoded.{bad_counts, bad_entry}
use Rattle.aig_arrays.proofs.Grammar.Rows.{ahead, tells_first, wrong_first}
use Rattle.aig_arrays.proofs.Loops.{more_sections, split_four, wrong_section}

-- the symbol of the words that are ahead
module _ (h : Header) (names : List ℕ) (before : Names) (start at : ℕ) (ws : List ℕ) (some : 4 ≤ length ws) where
  abbrev row : List ℕ
  row = get_or ws 0 0 ∷ get_or ws 1 0 ∷ get_or ws 2 0 ∷ get_or ws 3 0 ∷ []

  abbrev tell : List ℕ → Result Symbol Kind
  tell ns = checked_symbol h before (symbol_decoded names start ns)

  pub symbol_none : symbol_decoded names start row ≡ None
      → next_symbol h names before start (ahead at ws) ≡ Err (bad_entry at kinds.BadSymbol)
  unfolding checked_symbol
  symbol_none none =
      ap (λ (us : List ℕ). next_symbol h names before start (ahead at us)) (split_four ws some)
      ∙ wrong_first 4 tell at row (slice_range ws 4 (length ws)) kinds.BadSymbol refl
      (ap (checked_symbol h before) none)

  pub symbol_wrong : (s : Symbol) (kind : Kind) → symbol_decoded names start row ≡ Some s
      → Some kind ≡ fault_in_symbol h before s
      → next_symbol h names before start (ahead at ws) ≡ Err (bad_entry at kind)
  unfolding checked_symbol
  symbol_wrong s kind is wrong =
      ap (λ (us : List ℕ). next_symbol h names before start (ahead at us)) (split_four ws some)
      ∙ wrong_first 4 tell at row (slice_range ws 4 (length ws)) kind refl
      (ap (checked_symbol h before) is ∙ ap (unless_wrong s) (sym wrong))

  pub symbol_right : (s : Symbol) → symbol_decoded names start row ≡ Some s → None ≡ fault_in_symbol h before s
      → next_symbol h names before start (ahead at ws) ≡ Ok (s, ahead (at + 4) (slice_range ws 4 (length ws)))
  unfolding checked_symbol
  symbol_right s is right =
      ap (λ (us : List ℕ). next_symbol h names before start (ahead at us)) (split_four ws some)
      ∙ tells_first 4 tell at row (slice_range ws 4 (length ws)) s refl
      (ap (checked_symbol h before) is ∙ ap (unless_wrong s) (sym right))

-- what all symbols tell, where these are still to be read
module _ (h : Header) (names : List ℕ) (before : Names) (start left : ℕ) (a : Ahead) (c : Circuit)
    (all : Result (Circuit × ℕ) Stopped) (tells : symbols_decoded h names before start left a c ≡ all) where
  one_symbol : (n : ℕ) (s : Symbol) (after : Ahead) → next_symbol h names before start a ≡ Ok (s, after)
      → symbols_decoded h names before start (suc n) a c
      ≡ symbols_decoded h names (with_name before s.kind s.position) (start + length s.name) n after (with_symbol c s)
  unfolding symbols_decoded
  one_symbol n s after is = rw is refl

  no_symbol : (n : ℕ) (e : Stopped) → next_symbol h names before start a ≡ Err e
      → symbols_decoded h names before start (suc n) a c ≡ Err e
  unfolding symbols_decoded
  no_symbol n e is = rw is refl

  pub more_symbols : (next_left : ℕ) (s : Symbol) (after : Ahead) (now : Names) (d : Circuit) (end : ℕ) → 0 < left
      → next_left ≡ left - 1 → next_symbol h names before start a ≡ Ok (s, after)
      → now ≡ with_name before s.kind s.position → d ≡ with_symbol c s → end ≡ start + length s.name
      → symbols_decoded h names now end next_left after d ≡ all
  more_symbols next_left s after now d end some less is named added ends =
      let one : suc next_left ≡ left = omega arith in
      ap (λ (b : Names). symbols_decoded h names b end next_left after d) named
      ∙ ap (λ (e : Circuit). symbols_decoded h names (with_name before s.kind s.position) end next_left after e) added
      ∙ ap (λ (k : ℕ). symbols_decoded h names (with_name before s.kind s.position) k next_left after (with_symbol c s))
      ends
      ∙ sym (one_symbol next_left s after is)
      ∙ ap (λ (k : ℕ). symbols_decoded h names before start k a c) one ∙ tells

  pub wrong_symbols : (e : Stopped) → 0 < left
      → (e ≡ OutOfMemory) ⊎ (next_symbol h names before start a ≡ Err e) → (e ≡ OutOfMemory) ⊎ (all ≡ Err e)
  wrong_symbols e some (inl m) = inl m
  wrong_symbols e some (inr is) =
      let one : left ≡ suc (left - 1) = omega arith in
      inr (sym tells ∙ ap (λ (k : ℕ). symbols_decoded h names before start k a c) one ∙ no_symbol (left - 1) e is)

  pub all_symbols : left ≡ 0 → all ≡ Ok (c, start)
  unfolding symbols_decoded
  all_symbols none = sym tells ∙ ap (λ (k : ℕ). symbols_decoded h names before start k a c) none

-- what all sections tell, where those from this one on are still to be read
module _ (h : Header) (sections : List Section) (k : ℕ) (c : Circuit) (a : Ahead)
    (all : Result (Circuit × Ahead) Stopped) (tells : sections_decoded h (drop k sections) c a ≡ all) where
  next_section : k < length sections → drop k sections ≡ get_or sections k Inputs ∷ drop (k + 1) sections
  next_section more =
      let next : suc k ≡ k + 1 = omega arith in
      drop-cons sections k Inputs more ∙ ap (λ (n : ℕ). get_or sections k Inputs ∷ drop n sections) next

  pub sections_go_on : (d : Circuit) (b : Ahead) → k < length sections
      → section_decoded (in_ascii (get_or sections k Inputs)) h c a ≡ Ok (d, b)
      → sections_decoded h (drop (k + 1) sections) d b ≡ all
  sections_go_on d b more is =
      sym (more_sections h (get_or sections k Inputs) (drop (k + 1) sections) c a d b is)
      ∙ ap (λ (ss : List Section). sections_decoded h ss c a) (sym (next_section more)) ∙ tells

  pub section_fails : (e : Stopped) → k < length sections
      → (e ≡ OutOfMemory) ⊎ (section_decoded (in_ascii (get_or sections k Inputs)) h c a ≡ Err e)
      → (e ≡ OutOfMemory) ⊎ (all ≡ Err e)
  section_fails e more (inl m) = inl m
  section_fails e more (inr is) =
      inr (sym tells ∙ ap (λ (ss : List Section). sections_decoded h ss c a) (next_section more)
      ∙ wrong_section h (get_or sections k Inputs) (drop (k + 1) sections) c a e is)

  pub no_more_sections : length sections ≤ k → all ≡ Ok (c, a)
  unfolding sections_decoded
  no_more_sections end =
      sym tells ∙ ap (λ (ss : List Section). sections_decoded h ss c a) (drop_of_length-le sections end)

-- the circuit is judged
module _ (n : Counts) (words bytes : List ℕ) where
  pub entries_wrong : (e : Stopped) → (e ≡ OutOfMemory) ⊎ (entries_decoded n words bytes ≡ Err e)
      → IsFirstFault e (decoded n words bytes)
  unfolding decoded
  entries_wrong e (inl m) = inl m
  entries_wrong e (inr h) = inr (rw h refl)

  pub decoded_right : (c : Circuit) → entries_decoded n words bytes ≡ Ok c → first_structural_fault c ≡ None
      → decoded n words bytes ≡ Ok c
  unfolding decoded
  decoded_right c is none = rw (is, none) refl

  pub decoded_wrong : (c : Circuit) (fault : Stopped) → entries_decoded n words bytes ≡ Ok c
      → IsFault fault (first_structural_fault c) → IsFirstFault fault (decoded n words bytes)
  unfolding decoded
  decoded_wrong c fault is (inl m) = inl m
  decoded_wrong c fault is (inr f) = inr (rw (is, f) refl)

  -- nothing else is decoded, and a fault of what tells a circuit is want of memory
  pub one_decoded : (c d : Circuit) → decoded n words bytes ≡ Ok d → decoded n words bytes ≡ Ok c → d ≡ c
  one_decoded c d one other = ok_same {E = Stopped} d c (sym one ∙ other)

  pub only_memory : (c : Circuit) (e : Stopped) → IsFirstFault e (decoded n words bytes)
      → decoded n words bytes ≡ Ok c
      → e ≡ OutOfMemory
  only_memory c e (inl m) is = m
  only_memory c e (inr h) is = cc

-- counts that fit, and others
module _ (n : Counts) (words bytes : List ℕ) where
  pub unfit : counts_fit n words bytes ≡ false → entries_decoded n words bytes ≡ Err bad_counts
  unfolding entries_decoded
  unfit h = rw h refl

  pub fit : counts_fit n words bytes ≡ true
      → entries_decoded n words bytes ≡ with_entries n words bytes (empty_circuit n.max_var)
  unfolding entries_decoded
  fit h = rw h refl

  pub fit_fails : counts_fit n words bytes ≡ true → (d : Circuit) (e : Stopped) → d ≡ empty_circuit n.max_var
      → (e ≡ OutOfMemory) ⊎ (with_entries n words bytes d ≡ Err e)
      → (e ≡ OutOfMemory) ⊎ (entries_decoded n words bytes ≡ Err e)
  fit_fails h d e same (inl m) = inl m
  fit_fails h d e same (inr is) =
      inr (fit h ∙ ap (λ (c : Circuit). with_entries n words bytes c) (sym same) ∙ is)
