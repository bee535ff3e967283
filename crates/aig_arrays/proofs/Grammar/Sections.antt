-- Sections that words tell, and the other way round.
use Rattle.std.proofs.Common.{◌≡◌, ◌∷◌, ◌++◌, ◌∙◌, ℕ, List, [], Result, Ok, refl, ap, sym, subst, append_assoc, rules}
use Rattle.std.specs.List.{AllByRecursion, concat}
use Rattle.aig_circuit.specs.declared.circuit.Circuit.{Circuit}
use Rattle.aig_rows.proofs.Steps.{both_ok, ok_same}
use Rattle.aig_text.specs.Reading.{empty_circuit}
use Rattle.aig_text.specs.Sections.{sections, in_ascii}
use Rattle.aig_text.specs.declared.header_line.Header.{Header}
use Rattle.aig_text.specs.declared.section.Section.{Section}
use Rattle.aig_text.proofs.Grammar.Sections.{AllApart, AllEmpty, AllFit, AreApart, rows_by, tells_rows, with_all}
use Rattle.aig_arrays.specs.Decoded.{Ahead, rows_decoded, section_decoded, sections_decoded}
use Rattle.aig_arrays.specs.Words.{words_in}
use Rattle.aig_fault.specs.declared.stopped.Stopped.{Stopped}
use Rattle.aig_arrays.proofs.Grammar.Rows.{AreRowsFirst, ahead, rows_are_decoded, rows_found}

-- words that hold the rows of a circuit in these sections, and what they make of another one
pub record AreSectionsFirst (h : Header) (ss : List Section) (c d : Circuit) (words rest : List ℕ) : Type 0 where
  pub are : words ≡ words_in ss d ++ rest
  pub fit : AllFit in_ascii h (rows_by in_ascii d) ss c
  pub circuit : with_all in_ascii h (rows_by in_ascii d) ss c ≡ d

module _ (h : Header) where
  kept : (s : Section) (rows : Section → List (List ℕ)) (ss : List Section) (c : Circuit)
      → AllByRecursion (AreApart in_ascii h s) ss
      → rows_by in_ascii (with_all in_ascii h rows ss c) s ≡ rows_by in_ascii c s
  kept s rows [] c apart = refl
  kept s rows (t ∷ ss) c apart =
      kept s rows ss ((in_ascii t).with_rows h (rows t) c) apart.1 ∙ (apart.0 (rows t) c).1

  still_empty : (s : Section) (rows : List (List ℕ)) (c : Circuit) (ss : List Section)
      → AllByRecursion (AreApart in_ascii h s) ss → AllEmpty in_ascii h c ss
      → AllEmpty in_ascii h ((in_ascii s).with_rows h rows c) ss
  still_empty s rows c [] apart empty = tt
  still_empty s rows c (t ∷ ss) apart empty =
      ((apart.0 rows c).0 ∙ empty.0, still_empty s rows c ss apart.1 empty.1)

  abbrev start_of : Section → Circuit → ℕ
  start_of s c = (in_ascii s).start h c

  abbrev count_in : Section → Circuit → ℕ
  count_in s c = (in_ascii s).count h c

  abbrev rows_of_section : Section → Circuit → Ahead → Result (List (List ℕ) × Ahead) Stopped
  rows_of_section s c a =
      rows_decoded (in_ascii s).form ((in_ascii s).bound h) (start_of s c) (count_in s c) a

  abbrev after_rows : Section → Circuit → List (List ℕ) × Ahead → Result (Circuit × Ahead) Stopped
  after_rows s c found = Ok ((in_ascii s).with_rows h found.0 c, found.1)

  abbrev then_sections : List Section → Circuit × Ahead → Result (Circuit × Ahead) Stopped
  then_sections ss found = sections_decoded h ss found.0 found.1

  abbrev AreRowsOf : Section → Circuit → List (List ℕ) → List ℕ → List ℕ → Type 0
  AreRowsOf s c rows words rest =
      AreRowsFirst (in_ascii s).form ((in_ascii s).bound h) (start_of s c) (count_in s c) words rows rest

  sections_found : (ss : List Section) (c : Circuit) (a : Ahead) (p : Circuit × Ahead) → AllApart in_ascii h ss
      → AllEmpty in_ascii h c ss → sections_decoded h ss c a ≡ Ok p
      → AreSectionsFirst h ss c p.0 a.words p.1.words
  unfolding sections_decoded
  sections_found [] c a p apart empty is =
      subst (λ (q : Circuit × Ahead). AreSectionsFirst h [] c q.0 a.words q.1.words)
      (ok_same {E = Stopped} (c, a) p is) (record { are = refl; fit = tt; circuit = refl })
  sections_found (s ∷ ss) c a p apart empty is =
      let f = both_ok (section_decoded (in_ascii s) h c a) (then_sections ss) p is in
      let r = both_ok (rows_of_section s c a) (after_rows s c) f.0 f.1 in
      let e : ((in_ascii s).with_rows h r.0.0 c, r.0.1) ≡ f.0 = ok_same {E = Stopped} _ _ r.2 in
      let rows =
      rows_found (in_ascii s).form ((in_ascii s).bound h) (start_of s c) (count_in s c) a r.0 r.1 in
      let next : Circuit = (in_ascii s).with_rows h r.0.0 c in
      let others : AreSectionsFirst h ss next p.0 r.0.1.words p.1.words =
      sections_found ss next r.0.1 p apart.1 (still_empty s r.0.0 c ss apart.0 empty.1) (rw (← e) at f.2) in
      let own : rows_by in_ascii p.0 s ≡ r.0.0 =
      ap (λ (d : Circuit). rows_by in_ascii d s) (sym others.circuit) ∙ kept s (rows_by in_ascii p.0) ss next apart.0
      ∙ tells_rows h s r.0.0 c empty.0 (record { good = rows.good; counted = rows.counted }) in
      let both =
      subst (λ (rs : List (List ℕ)). AreRowsOf s c rs a.words r.0.1.words
      × AreSectionsFirst h ss ((in_ascii s).with_rows h rs c) p.0 r.0.1.words p.1.words) (sym own) (rows, others) in
      record {
        are =
            both.0.are ∙ ap (λ (ws : List ℕ). concat (rows_by in_ascii p.0 s) ++ ws) both.1.are
            ∙ sym (append_assoc (concat (rows_by in_ascii p.0 s)) (words_in ss p.0) p.1.words);
        fit = (record { good = both.0.good; counted = both.0.counted }, both.1.fit);
        circuit = both.1.circuit;
      }

  -- and such words are decoded
  pub sections_are_decoded : (d : Circuit) (ss : List Section) (c : Circuit) (at : ℕ) (rest : List ℕ)
      → AllFit in_ascii h (rows_by in_ascii d) ss c
      → (k : ℕ)
      × (sections_decoded h ss c (ahead at (words_in ss d ++ rest))
      ≡ Ok (with_all in_ascii h (rows_by in_ascii d) ss c, ahead k rest))
  unfolding sections_decoded
  sections_are_decoded d [] c at rest fit = (at, refl)
  sections_are_decoded d (s ∷ ss) c at rest fit =
      let rows = rows_by in_ascii d s in
      let r =
      rows_are_decoded (in_ascii s).form ((in_ascii s).bound h) (start_of s c) at (words_in ss d ++ rest) rows
      fit.0.good in
      let o = sections_are_decoded d ss ((in_ascii s).with_rows h rows c) r.0 rest fit.1 in
      (o.0, rw (append_assoc (concat rows) (words_in ss d) rest, ← fit.0.counted, r.1, o.1) refl)

  apart : AllApart in_ascii h sections
  apart = search rules

  pub all_found : (a : Ahead) (p : Circuit × Ahead) → sections_decoded h sections (empty_circuit h.max_var) a ≡ Ok p
      → AreSectionsFirst h sections (empty_circuit h.max_var) p.0 a.words p.1.words
  all_found a p is = sections_found sections (empty_circuit h.max_var) a p apart (search rules) is
