-- The circuit that words and bytes tell, entry by entry.
use Rattle.std.proofs.Common.{append_assoc, ◌≡◌, ◌≤◌, ◌<◌, ◌∷◌, ◌++◌, ◌∙◌, ◌||◌, ◌==◌, ℕ, true, false}
use Rattle.std.proofs.Common.{List, [], length, take, drop, Bool, Option, None, Some, Result, Ok, refl, ap}
use Rattle.std.proofs.Common.{sym, arith, rules, subst, append-nil, sum, nat_le, nat_eq}
use Rattle.std.proofs.Common.{eqb-true, leb-true, get_or, ◌≢◌, is_some, if◌then◌else◌, take-append-drop}
use Rattle.std.specs.List.{AllByRecursion, list_all}
use Rattle.std.specs.Option.{unwrap_or}
use Rattle.std.proofs.Math.Seq.{drop-length}
use Rattle.std.proofs.lemmas.Bool.{and_parts, eqb-false}
use Rattle.std.proofs.lemmas.List.{length-append, length-drop, length-take-le, nil_from_length}
use Rattle.aig_circuit.specs.declared.circuit.Circuit.{Circuit}
use Rattle.aig_circuit.specs.declared.circuit.Symbol.{Symbol}
use Rattle.aig_circuit.specs.declared.circuit.Kind.{Kind}
use Rattle.aig_circuit.specs.declared.circuit.Kind.TheVariants as kinds
use Rattle.aig_circuit.specs.Form.{HasEntriesInRange, IsInForm}
use Rattle.aig_circuit.proofs.Checking.{by_parts}
use Rattle.aig_circuit.specs.Wellformed.{HasGoodSymbols, IsAmong, IsWithinLimits, NameApart, count_of, largest_index}
use Rattle.aig_circuit.specs.Wellformed.{line_feed}
use Rattle.aig_core.specs.Fault.{first_structural_fault}
use Rattle.aig_fault.specs.declared.stopped.Stopped.{Stopped}
use Rattle.aig_core.specs.Names.{nothing_named}
use Rattle.aig_core.proofs.Checking.Faultless.{well_formed}
use Rattle.aig_rows.specs.Reading.{◌>>=◌}
use Rattle.aig_rows.proofs.Steps.{both_ok, let_through, ok_same}
use Rattle.aig_text.specs.Reading.{count_named, empty_circuit}
use Rattle.aig_text.specs.declared.header_line.Header.{Header}
use Rattle.aig_text.specs.Sections.{header_row, sections}
use Rattle.aig_text.proofs.Grammar.Headers.{HasCounts}
use Rattle.aig_text.proofs.Grammar.Sections.{entries_in_range, row_of_header, same_counts, same_sizes, small_sizes}
use Rattle.aig_text.proofs.Grammar.Symbols.{IsPlaced, new_apart, new_placed}
use Rattle.aig_arrays.specs.Decoded.{Ahead, comment_in, counts_fit, entries_decoded, header_of, sections_decoded}
use Rattle.aig_arrays.specs.Decoded.{sizes_in}
use Rattle.aig_arrays.specs.Decoded.{decoded, symbols_decoded, unless_broken, unless_left, with_comment_decoded}
use Rattle.aig_arrays.specs.Words.{Counts, bytes_length, circuit_bytes, circuit_words, counts_of, names_of}
use Rattle.aig_arrays.specs.Words.{section_words, symbol_words, words_length}
use Rattle.aig_arrays.specs.Laws.{IsDecodedFrom}
use Rattle.aig_fault.specs.declared.stopped.Stopped.{Stopped}
use Rattle.aig_arrays.specs.Decoded.{bad_counts}
use Rattle.aig_arrays.proofs.Grammar.Rows.{ahead}
use Rattle.aig_arrays.proofs.Grammar.Sections.{AreSectionsFirst, all_found}
use Rattle.aig_arrays.proofs.Grammar.Symbols.{AreSymbolsFirst, names_in, symbols_found}
use Rattle.aig_arrays.proofs.Grammar.Places.{sizes_found}
use Rattle.aig_arrays.proofs.Written.{words_counted}

-- counts that fit words and bytes
pub record DoFit (n : Counts) (words bytes : List ℕ) : Type 0 where
  pub small :
      AllByRecursion (λ k. k ≤ largest_index)
      (n.max_var ∷ n.inputs ∷ n.latches ∷ n.outputs ∷ n.bad ∷ n.constraints ∷ n.justice ∷ n.justice_literals
      ∷ n.fairness ∷ n.gates ∷ [])
  pub has_comment : n.has_comment ≤ 1
  pub comment : (nat_le 1 n.has_comment || (n.comment_bytes == 0)) ≡ true
  pub words_are : words_length n ≡ length words
  pub bytes_are : bytes_length n ≡ length bytes
  pub sizes : sum (sizes_in n words) ≡ n.justice_literals

all_small : (ks : List ℕ) → list_all (λ k. nat_le k largest_index) ks ≡ true
    → AllByRecursion (λ k. k ≤ largest_index) ks
all_small [] h = tt
all_small (k ∷ ks) h =
    let p = and_parts (nat_le k largest_index) (list_all (λ k. nat_le k largest_index) ks) h in
    (leb-true k largest_index p.0, all_small ks p.1)

pub do_fit : (n : Counts) (words bytes : List ℕ) → counts_fit n words bytes ≡ true → DoFit n words bytes
do_fit n words bytes h = search (rules, and_parts, eqb-true, leb-true, all_small)

-- what words and bytes tell
pub record TellEntries (n : Counts) (words bytes : List ℕ) (c : Circuit) : Type 0 where
  pub fits : DoFit n words bytes
  pub numbered : Circuit
  pub behind : List ℕ
  pub named : Circuit × ℕ
  pub sections : AreSectionsFirst (header_of n) sections (empty_circuit n.max_var) numbered words behind
  pub symbols :
      AreSymbolsFirst (header_of n) (take n.name_bytes bytes) nothing_named 0 n.symbols behind numbered named
  pub ends : named.1 ≡ n.name_bytes
  pub circuit : with_comment_decoded n bytes named.0 ≡ c

abbrev then_symbols : Counts → List ℕ → Circuit × Ahead → Result (Circuit × ℕ) Stopped
then_symbols n bytes numbered =
    symbols_decoded (header_of n) (take n.name_bytes bytes) nothing_named 0 n.symbols numbered.1 numbered.0

abbrev then_all : Counts → List ℕ → Circuit × Ahead → Result Circuit Stopped
then_all n bytes numbered = then_symbols n bytes numbered >>= unless_left n bytes

pub entries_found : (n : Counts) (words bytes : List ℕ) (c : Circuit) → entries_decoded n words bytes ≡ Ok c
    → TellEntries n words bytes c
unfolding entries_decoded
entries_found n words bytes c h =
    let all = sections_decoded (header_of n) sections (empty_circuit n.max_var) (ahead 0 words) in
    let t = let_through (counts_fit n words bytes) bad_counts (all >>= then_all n bytes) c h in
    let b = both_ok all (then_all n bytes) c t.1 in
    let d = both_ok (then_symbols n bytes b.0) (unless_left n bytes) c b.2 in
    let e = let_through (nat_eq d.0.1 n.name_bytes) bad_counts (Ok (with_comment_decoded n bytes d.0.0)) c d.2 in
    record {
      fits = do_fit n words bytes t.0;
      numbered = b.0.0;
      behind = b.0.1.words;
      named = d.0;
      sections = all_found (header_of n) (ahead 0 words) b.0 b.1;
      symbols =
          symbols_found (header_of n) (take n.name_bytes bytes) nothing_named 0 n.symbols b.0.1 b.0.0 d.0 d.1;
      ends = eqb-true d.0.1 n.name_bytes e.0;
      circuit = ok_same {E = Stopped} (with_comment_decoded n bytes d.0.0) c e.1;
    }

-- the comment that stands in these bytes
record CommentIs (n : Counts) (text : List ℕ) (comment : Option (List ℕ)) : Type 0 where
  pub bytes : unwrap_or comment [] ≡ text
  pub decoded : (if is_some comment then 1 else 0) ≡ n.has_comment

comment_cases : (n : Counts) (bytes : List ℕ) (none : Bool) → (n.has_comment == 0) ≡ none → n.has_comment ≤ 1
    → (nat_le 1 n.has_comment || (n.comment_bytes == 0)) ≡ true → length bytes ≡ n.comment_bytes
    → CommentIs n bytes (if none then None else Some bytes)
comment_cases n bytes true is one holds long =
    let zero : n.has_comment ≡ 0 = eqb-true n.has_comment 0 is in
    let empty : n.comment_bytes ≡ 0 =
    eqb-true n.comment_bytes 0 (subst (λ (k : ℕ). (nat_le 1 k || (n.comment_bytes == 0)) ≡ true) zero holds) in
    record { bytes = sym (nil_from_length bytes (long ∙ empty)); decoded = sym zero }
comment_cases n bytes false is one holds long =
    let some : n.has_comment ≢ 0 = eqb-false n.has_comment 0 is in
    record { bytes = refl; decoded = omega (arith, one, some) }

comment_by : (n : Counts) (bytes : List ℕ) → n.has_comment ≤ 1
    → (nat_le 1 n.has_comment || (n.comment_bytes == 0)) ≡ true → length bytes ≡ n.comment_bytes
    → CommentIs n bytes (comment_in n bytes)
comment_by n bytes one holds long = comment_cases n bytes (n.has_comment == 0) refl one holds long

-- a circuit with these symbols and this comment
abbrev pub with_tail : Circuit → List Symbol → Option (List ℕ) → Circuit
with_tail c ss comment = record c { symbols = ss; comment = comment }

-- what the tail adds changes no entry
tail_in_range : (c : Circuit) (ss : List Symbol) (comment : Option (List ℕ)) → HasEntriesInRange c
    → HasEntriesInRange (with_tail c ss comment)
tail_in_range c ss comment e =
    record { inputs = e.inputs; latches = e.latches; literals = e.literals; gates = e.gates }

module _ (n : Counts) (words bytes : List ℕ) (c : Circuit) (t : TellEntries n words bytes c) where
  abbrev h : Header
  h = header_of n

  no_symbols : t.numbered.symbols ≡ []
  no_symbols = rw (← t.sections.circuit) refl

  -- the circuit is that of the sections, with the symbols and the comment
  pub made : with_tail t.numbered t.symbols.symbols (comment_in n (drop n.name_bytes bytes)) ≡ c
  made =
      ap (λ (ss : List Symbol). with_tail t.numbered (ss ++ t.symbols.symbols) (comment_in n (drop n.name_bytes bytes)))
      (sym no_symbols)
      ∙ ap (λ (d : Circuit). with_comment_decoded n bytes d) t.symbols.circuit ∙ t.circuit

  pub counted : HasCounts h c
  counted =
      sym (ap header_row made)
      ∙ rw (← t.sections.circuit) (same_counts h t.numbered t.sections.fit)

  pub sizes_counted : sum c.justice.sizes ≡ length c.justice.literals
  sizes_counted =
      subst (λ (d : Circuit). sum d.justice.sizes ≡ length d.justice.literals) made
      (rw (← t.sections.circuit) (same_sizes h t.numbered t.sections.fit))

  small_sizes_decoded : sum c.justice.sizes ≤ largest_index
  small_sizes_decoded =
      subst (λ (d : Circuit). sum d.justice.sizes ≤ largest_index) made
      (rw (← t.sections.circuit) (small_sizes h t.numbered t.sections.fit))

  -- the number at a place of the header row
  at_row : (k : ℕ) → get_or (header_row c) k 0 ≡ get_or (row_of_header h) k 0
  at_row k = ap (λ (ns : List ℕ). get_or ns k 0) counted

  limits : IsWithinLimits c
  limits =
      let small = t.fits.small in
      let low : (k m : ℕ) → k ≡ m → m ≤ largest_index → k ≤ largest_index =
      λ k m same top. omega (arith, same, top) in
      let inputs = low (length c.inputs) n.inputs (at_row 1) small.1.0 in
      let latches = low (length c.latches) n.latches (at_row 2) small.1.1.0 in
      let outputs = low (length c.outputs) n.outputs (at_row 3) small.1.1.1.0 in
      let bad = low (length c.bad) n.bad (at_row 5) small.1.1.1.1.0 in
      let constraints = low (length c.constraints) n.constraints (at_row 6) small.1.1.1.1.1.0 in
      let justice = low (length c.justice.sizes) n.justice (at_row 7) small.1.1.1.1.1.1.0 in
      let fairness = low (length c.fairness) n.fairness (at_row 8) small.1.1.1.1.1.1.1.1.0 in
      let literals : length c.justice.literals ≤ largest_index =
      omega (arith, small_sizes_decoded, sizes_counted) in
      record {
        max_var = low c.max_var n.max_var (at_row 0) small.0;
        inputs = inputs;
        latches = latches;
        literals = (outputs, (bad, (constraints, (literals, (fairness, tt)))));
        justice = justice;
        sizes = sizes_counted;
        gates = low (length c.gates) n.gates (at_row 4) small.1.1.1.1.1.1.1.1.1.0;
      }

  count_is : (k : Kind) → count_named h k ≡ count_of c k
  count_is kinds.Input = sym (at_row 1)
  count_is kinds.Latch = sym (at_row 2)
  count_is kinds.Output = sym (at_row 3)
  count_is kinds.Bad = sym (at_row 5)
  count_is kinds.Constraint = sym (at_row 6)
  count_is kinds.Justice = sym (at_row 7)
  count_is kinds.Fairness = sym (at_row 8)

  placed : (ss : List Symbol) → AllByRecursion (IsPlaced h) ss
      → AllByRecursion (λ (s : Symbol). s.position < count_of c s.kind) ss
  placed [] p = tt
  placed (s ∷ ss) p = (rw (count_is s.kind) at p.0, placed ss p.1)

  symbols_good : HasGoodSymbols c
  symbols_good =
      let ss = t.symbols.symbols in
      let same : c.symbols ≡ ss = sym (ap (λ (d : Circuit). d.symbols) made) in
      let there = placed ss (new_placed h nothing_named ss t.symbols.new) in
      record {
        positions =
            subst (λ (us : List Symbol). AllByRecursion (λ (s : Symbol). s.position < count_of c s.kind) us) (sym same)
            there;
        apart = subst NameApart (sym same) (new_apart h ss t.symbols.new);
        lines =
            subst (λ (us : List Symbol). AllByRecursion (λ (s : Symbol). ¬ IsAmong line_feed s.name) us) (sym same)
            t.symbols.lines;
      }

  entries_good : HasEntriesInRange c
  entries_good =
      subst HasEntriesInRange made
      (subst (λ (d : Circuit).
      HasEntriesInRange (with_tail d t.symbols.symbols (comment_in n (drop n.name_bytes bytes))))
      t.sections.circuit (tail_in_range _ _ _ (entries_in_range h t.numbered t.sections.fit)))

  -- it is in form
  pub in_form : IsInForm c
  in_form = by_parts c limits entries_good symbols_good

  -- the words and the bytes are those of the circuit
  symbols_are : t.symbols.symbols ≡ c.symbols
  symbols_are = ap (λ (d : Circuit). d.symbols) made

  split : words ≡ section_words c ++ (symbol_words 0 c.symbols ++ t.symbols.rest)
  split =
      t.sections.are
      ∙ ap (λ (d : Circuit). section_words d ++ t.behind) made
      ∙ ap (λ (ws : List ℕ). section_words c ++ ws) t.symbols.words_are
      ∙ ap (λ (ss : List Symbol). section_words c ++ (symbol_words 0 ss ++ t.symbols.rest)) symbols_are

  literals_are : length c.justice.literals ≡ n.justice_literals
  literals_are =
      sym sizes_counted ∙ ap sum (sym (sizes_found n c (symbol_words 0 c.symbols ++ t.symbols.rest) counted))
      ∙ ap (λ (ws : List ℕ). sum (sizes_in n ws)) (sym split) ∙ t.fits.sizes

  symbols_counted : length c.symbols ≡ n.symbols
  symbols_counted = ap length (sym symbols_are) ∙ t.symbols.counted

  whole : words ≡ circuit_words c ++ t.symbols.rest
  whole = split ∙ sym (append_assoc (section_words c) (symbol_words 0 c.symbols) t.symbols.rest)

  nothing_left : t.symbols.rest ≡ []
  nothing_left =
      nil_from_length t.symbols.rest (omega (
        arith,
        t.fits.words_are,
        ap length whole,
        length-append (circuit_words c) t.symbols.rest,
        words_counted c,
        symbols_counted,
        literals_are,
        at_row 1,
        at_row 2,
        at_row 3,
        at_row 4,
        at_row 5,
        at_row 6,
        at_row 7,
        at_row 8,
      ))

  pub words_are : words ≡ circuit_words c
  words_are =
      whole ∙ ap (λ (ws : List ℕ). circuit_words c ++ ws) nothing_left ∙ append-nil (circuit_words c)

  -- names stand at the front of the bytes
  names_fit : n.name_bytes ≤ length bytes
  names_fit = omega (arith, t.fits.bytes_are)

  names_long : length (take n.name_bytes bytes) ≡ n.name_bytes
  names_long = length-take-le n.name_bytes bytes names_fit

  names_are : take n.name_bytes bytes ≡ names_of c
  names_are =
      let names = take n.name_bytes bytes in
      let none : drop t.named.1 names ≡ [] =
      ap (λ (k : ℕ). drop k names) (t.ends ∙ sym names_long) ∙ drop-length names in
      t.symbols.names_are ∙ ap (λ (ns : List ℕ). names_in t.symbols.symbols ++ ns) none
      ∙ append-nil (names_in t.symbols.symbols) ∙ ap names_in symbols_are

  comment_is : comment_in n (drop n.name_bytes bytes) ≡ c.comment
  comment_is = ap (λ (d : Circuit). d.comment) made

  rest_long : length (drop n.name_bytes bytes) ≡ n.comment_bytes
  rest_long = omega (arith, length-drop n.name_bytes bytes, t.fits.bytes_are)

  comment_found : CommentIs n (drop n.name_bytes bytes) c.comment
  comment_found =
      subst (CommentIs n (drop n.name_bytes bytes)) comment_is
      (comment_by n (drop n.name_bytes bytes) t.fits.has_comment t.fits.comment rest_long)

  pub bytes_are : bytes ≡ circuit_bytes c
  bytes_are =
      sym (take-append-drop n.name_bytes bytes)
      ∙ ap (λ (ns : List ℕ). ns ++ drop n.name_bytes bytes) names_are
      ∙ ap (λ (bs : List ℕ). names_of c ++ bs) (sym comment_found.bytes)

  pub counts_are : n ≡ counts_of c
  counts_are =
      rw (
        at_row 0,
        at_row 1,
        at_row 2,
        at_row 3,
        at_row 4,
        at_row 5,
        at_row 6,
        at_row 7,
        at_row 8,
        literals_are,
        symbols_counted,
        comment_found.decoded,
        ap length (sym names_are) ∙ names_long,
        ap length comment_found.bytes ∙ rest_long,
      ) refl

-- what is decoded has the words, and is well formed
no_fault : (c d : Circuit) (o : Option Stopped) → unless_broken c o ≡ Ok d → (o ≡ None) × (c ≡ d)
no_fault c d None h = (refl, ok_same {E = Stopped} c d h)
no_fault c d (Some f) h = cc

pub entries_in_form : (n : Counts) (words bytes : List ℕ) (c : Circuit) → entries_decoded n words bytes ≡ Ok c
    → IsInForm c
entries_in_form n words bytes c is = in_form n words bytes c (entries_found n words bytes c is)

pub decoded_has_words : (n : Counts) (words bytes : List ℕ) (c : Circuit) → decoded n words bytes ≡ Ok c
    → IsDecodedFrom n words bytes c
unfolding decoded
decoded_has_words n words bytes c is =
    let b =
    both_ok (entries_decoded n words bytes) (λ (d : Circuit). unless_broken d (first_structural_fault d)) c is in
    let f = no_fault b.0 c (first_structural_fault b.0) b.2 in
    let t = entries_found n words bytes b.0 b.1 in
    subst (IsDecodedFrom n words bytes) f.1 (record {
      well_formed = well_formed b.0 (in_form n words bytes b.0 t) f.0;
      counts = counts_are n words bytes b.0 t;
      words_are = words_are n words bytes b.0 t;
      bytes_are = bytes_are n words bytes b.0 t;
    })
