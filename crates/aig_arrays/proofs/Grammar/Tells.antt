-- The words and the bytes of a well-formed circuit tell it.
use Rattle.std.proofs.Common.{◌≡◌, ◌≤◌, ◌<◌, ◌∷◌, ◌∙◌, ◌+◌, ◌&&◌, ◌||◌, ◌==◌, ℕ, true, List, [], length}
use Rattle.std.proofs.Common.{take, drop, Option, None, Some, Ok, refl, ap, sym, arith, sum, nat_le, append-nil, rules}
use Rattle.std.proofs.Common.{eq-eqb, le-leb, is_some, if◌then◌else◌}
use Rattle.std.specs.List.{AllByRecursion, list_all}
use Rattle.std.specs.Option.{unwrap_or}
use Rattle.std.proofs.Math.Seq.{take-append_seam, drop-append_seam}
use Rattle.aig_circuit.specs.declared.circuit.Circuit.{Circuit}
use Rattle.aig_circuit.specs.declared.circuit.Kind.{Kind}
use Rattle.aig_circuit.specs.declared.circuit.Kind.TheVariants.{Input}
use Rattle.aig_circuit.specs.declared.circuit.Symbol.{Symbol}
use Rattle.aig_circuit.specs.Form.{IsInForm}
use Rattle.aig_circuit.specs.Wellformed.{IsWellFormed, count_of, largest_index}
use Rattle.aig_circuit.proofs.Checking.{well_formed_in_form}
use Rattle.aig_core.specs.Names.{nothing_named}
use Rattle.aig_core.proofs.Checking.Faultless.{faultless}
use Rattle.aig_rows.proofs.Grammar.Entries.{all_again}
use Rattle.aig_text.specs.Reading.{count_named, empty_circuit}
use Rattle.aig_text.specs.Sections.{in_ascii, sections}
use Rattle.aig_text.proofs.Canonical.{sizes_are_small}
use Rattle.aig_text.proofs.Grammar.Sections.{bare, gates_up_to, inputs_up_to, latches_up_to, literals_again, own_rows}
use Rattle.aig_text.proofs.Grammar.Sections.{rows_by, with_all}
use Rattle.aig_text.proofs.Grammar.Symbols.{IsPlaced, apart_new}
use Rattle.aig_arrays.specs.Decoded.{comment_in, counts_fit, entries_decoded, header_of, sections_decoded, sizes_in}
use Rattle.aig_arrays.specs.Decoded.{decoded, symbols_decoded, unless_broken}
use Rattle.aig_arrays.specs.Words.{circuit_bytes, circuit_words, comment_of, counts_of, names_of}
use Rattle.aig_arrays.specs.Words.{symbol_words}
use Rattle.aig_arrays.proofs.Grammar.Rows.{ahead}
use Rattle.aig_arrays.proofs.Grammar.Places.{sizes_found}
use Rattle.aig_arrays.proofs.Written.{bytes_counted, words_counted}
use Rattle.aig_arrays.proofs.Grammar.Sections.{sections_are_decoded}
use Rattle.aig_arrays.proofs.Grammar.Symbols.{symbols_are_decoded, with_symbols}

small_all : (ks : List ℕ) → AllByRecursion (λ k. k ≤ largest_index) ks
    → list_all (λ k. nat_le k largest_index) ks ≡ true
small_all [] h = refl
small_all (k ∷ ks) h = rw (le-leb k largest_index h.0) (small_all ks h.1)

-- the comment stands where the counts of the circuit tell it
comment_counted : (comment : Option (List ℕ))
    → ((nat_le (if is_some comment then 1 else 0) 1
    && (nat_le 1 (if is_some comment then 1 else 0) || (length (unwrap_or comment []) == 0))) ≡ true)
    × ((if (if is_some comment then 1 else 0) == 0 then None else Some (unwrap_or comment [])) ≡ comment)
comment_counted None = (refl, refl)
comment_counted (Some bytes) = (refl, refl)

own_count : (c : Circuit) (k : Kind) → count_of c k ≡ count_named (header_of (counts_of c)) k
own_count c Input = refl
own_count c k = refl

own_placed : (c : Circuit) (ss : List Symbol) → AllByRecursion (λ (s : Symbol). s.position < count_of c s.kind) ss
    → AllByRecursion (IsPlaced (header_of (counts_of c))) ss
own_placed c [] p = tt
own_placed c (s ∷ ss) p = (rw (own_count c s.kind) at p.0, own_placed c ss p.1)

-- the rows of a circuit tell it, but for its symbols and its comment
rows_tell : (c : Circuit) → IsInForm c
    → with_all in_ascii (header_of (counts_of c)) (rows_by in_ascii c) sections (empty_circuit c.max_var) ≡ bare c
rows_tell c form = search (rules, all_again, inputs_up_to, latches_up_to, gates_up_to, literals_again)

module _ (c : Circuit) (good : IsWellFormed c) where
  form : IsInForm c
  form = well_formed_in_form c good

  small : sum c.justice.sizes ≤ largest_index
  small = sizes_are_small c form.limits

  -- the counts fit
  sizes_summed : sum (sizes_in (counts_of c) (circuit_words c)) ≡ length c.justice.literals
  sizes_summed = ap sum (sizes_found (counts_of c) c (symbol_words 0 c.symbols) refl) ∙ form.limits.sizes

  all_in_range : list_all (λ k. nat_le k largest_index)
      (c.max_var ∷ length c.inputs ∷ length c.latches ∷ length c.outputs ∷ length c.bad ∷ length c.constraints
      ∷ length c.justice.sizes ∷ length c.justice.literals ∷ length c.fairness ∷ length c.gates ∷ []) ≡ true
  all_in_range =
      let l = form.limits in
      small_all
      (c.max_var ∷ length c.inputs ∷ length c.latches ∷ length c.outputs ∷ length c.bad ∷ length c.constraints
      ∷ length c.justice.sizes ∷ length c.justice.literals ∷ length c.fairness ∷ length c.gates ∷ []) (
        l.max_var,
        (
          l.inputs,
          (
            l.latches,
            (
              l.literals.0,
              (
                l.literals.1.0,
                (
                  l.literals.1.1.0,
                  (
                    l.justice,
                    (l.literals.1.1.1.0, (l.literals.1.1.1.1.0, (l.gates, tt))),
                  ),
                ),
              ),
            ),
          ),
        ),
      )

  pub fits : counts_fit (counts_of c) (circuit_words c) (circuit_bytes c) ≡ true
  fits = search (rules, all_in_range, comment_counted, words_counted c, bytes_counted c, sizes_summed, eq-eqb)

  decoded_sections : (k : ℕ)
      × (sections_decoded (header_of (counts_of c)) sections (empty_circuit c.max_var) (ahead 0 (circuit_words c)) ≡ Ok
      (bare c, ahead k (symbol_words 0 c.symbols)))
  decoded_sections =
      let s =
      sections_are_decoded (header_of (counts_of c)) c sections (empty_circuit c.max_var) 0 (symbol_words 0 c.symbols)
      (own_rows largest_index c form small) in
      (s.0, s.1 ∙ ap (λ (d : Circuit). Ok (d, ahead s.0 (symbol_words 0 c.symbols))) (rows_tell c form))

  decoded_symbols : (k : ℕ)
      → symbols_decoded (header_of (counts_of c)) (names_of c) nothing_named 0 (length c.symbols)
      (ahead k (symbol_words 0 c.symbols)) (bare c)
      ≡ Ok (with_symbols (bare c) c.symbols, 0 + length (names_of c))
  decoded_symbols k =
      let h = header_of (counts_of c) in
      let new = apart_new h c.symbols (own_placed c c.symbols good.symbols.positions) good.symbols.apart in
      ap (λ (ws : List ℕ). symbols_decoded h (names_of c) nothing_named 0 (length c.symbols) (ahead k ws) (bare c))
      (sym (append-nil (symbol_words 0 c.symbols)))
      ∙ symbols_are_decoded h (names_of c) [] nothing_named 0 k [] c.symbols (bare c) (omega arith)
      (sym (append-nil (names_of c))) new good.symbols.lines

  names_first : take (length (names_of c)) (circuit_bytes c) ≡ names_of c
  names_first = take-append_seam (names_of c) (comment_of c)

  comment_last : comment_in (counts_of c) (drop (length (names_of c)) (circuit_bytes c)) ≡ c.comment
  comment_last =
      ap (comment_in (counts_of c)) (drop-append_seam (names_of c) (comment_of c)) ∙ (comment_counted c.comment).1

  all_named : ((0 + length (names_of c)) == length (names_of c)) ≡ true
  all_named = eq-eqb (0 + length (names_of c)) (length (names_of c)) (omega arith)

  entries : entries_decoded (counts_of c) (circuit_words c) (circuit_bytes c) ≡ Ok c
  unfolding entries_decoded
  entries =
      rw (fits, decoded_sections.1, names_first, decoded_symbols decoded_sections.0, all_named)
      (ap (λ (o : Option (List ℕ)). Ok (record c { comment = o })) comment_last)

  pub is_decoded : decoded (counts_of c) (circuit_words c) (circuit_bytes c) ≡ Ok c
  unfolding decoded
  is_decoded = rw entries (ap (unless_broken c) (faultless c good))
