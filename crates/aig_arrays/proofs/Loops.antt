-- Entries and sections that are read one after another: what is left tells what all of it tells.
use Rattle.std.proofs.Common.{◌≡◌, ◌≤◌, ◌∷◌, ◌++◌, ◌∙◌, ◌+◌, ℕ, suc, List, [], map, get_or, Result, Ok, Err, OnOk}
use Rattle.std.proofs.Common.{refl, ap, sym, subst, sum, append_assoc, arith, length, None, Some, drop, take}
use Rattle.std.proofs.Common.{slice_range, append-nil, ◌<◌, ◌-◌}
use Rattle.std.proofs.Math.Seq.{take-length}
use Rattle.std.proofs.lemmas.List.{length-drop}
use Rattle.std.proofs.lemmas.List.Sums.{sum_by-append}
use Rattle.aig_circuit.specs.declared.circuit.Circuit.{Circuit}
use Rattle.aig_rows.specs.Reading.{◌>>=◌, carried_on, fault_in_row, unless_wrong}
use Rattle.aig_fault.specs.declared.kind.Kind.{Kind}
use Rattle.aig_rows.specs.Rows.{Form, size_form, size_of}
use Rattle.aig_rows.proofs.Grammar.Entries.{sizes_within}
use Rattle.aig_rows.proofs.Steps.{ok_same}
use Rattle.aig_text.specs.Sections.{in_ascii}
use Rattle.aig_text.specs.declared.header_line.Header.{Header}
use Rattle.aig_text.specs.declared.section.Section.{Section}
use Rattle.aig_arrays.specs.Outcomes.{GivesOrMemory, entries_meant, entry_meant}
use Rattle.aig_arrays.specs.Decoded.{Ahead, row_decoded, rows_decoded, section_decoded, sections_decoded, width}
use Rattle.aig_fault.specs.declared.stopped.Stopped.{Stopped}
use Rattle.aig_arrays.specs.Decoded.{bad_entry}
use Rattle.aig_arrays.proofs.Grammar.Rows.{ahead, rows_found, tells_first, with_first, wrong_first}

-- the first words, and the others
all_behind : (k : ℕ) (ws : List ℕ) → drop k ws ≡ slice_range ws k (length ws)
all_behind k ws =
    sym (take-length (drop k ws)) ∙ ap (λ (n : ℕ). take n (drop k ws)) (length-drop k ws)

split_one : (ws : List ℕ) → 1 ≤ length ws → ws ≡ (get_or ws 0 0 ∷ []) ++ slice_range ws 1 (length ws)
split_one [] h = absurd (omega arith)
split_one (a ∷ ws) h = ap (λ (us : List ℕ). a ∷ us) (all_behind 1 (a ∷ ws))

split_three : (ws : List ℕ) → 3 ≤ length ws
    → ws ≡ (get_or ws 0 0 ∷ get_or ws 1 0 ∷ get_or ws 2 0 ∷ []) ++ slice_range ws 3 (length ws)
split_three (a ∷ b ∷ d ∷ ws) h = ap (λ (us : List ℕ). a ∷ b ∷ d ∷ us) (all_behind 3 (a ∷ b ∷ d ∷ ws))
split_three ws h = absurd (omega arith)

pub split_four : (ws : List ℕ) → 4 ≤ length ws
    → ws ≡ (get_or ws 0 0 ∷ get_or ws 1 0 ∷ get_or ws 2 0 ∷ get_or ws 3 0 ∷ []) ++ slice_range ws 4 (length ws)
split_four (a ∷ b ∷ d ∷ e ∷ ws) h =
    ap (λ (us : List ℕ). a ∷ b ∷ d ∷ e ∷ us) (all_behind 4 (a ∷ b ∷ d ∷ e ∷ ws))
split_four ws h = absurd (omega arith)

module _ {A : Type 0} (tell : List ℕ → A) where
  first_meant : (found : List A) (ns : List ℕ) (r : Result (List (List ℕ) × Ahead) Stopped)
      → entries_meant tell found (◌>>=◌ {B = List (List ℕ) × Ahead} r (with_first ns))
      ≡ entries_meant tell (found ++ tell ns ∷ []) r
  first_meant found ns (Ok y) =
      ap (λ (xs : List A). Ok (xs, y.1)) (sym (append_assoc found (tell ns ∷ []) (map tell y.0)))
  first_meant found ns (Err e) = refl

  module _ (form : Form) (bound : ℕ) where
    -- what is carried on after a row that means this
    abbrev pub IsCarried : ℕ → A → ℕ → Type 0
    IsCarried carried x next = (ns : List ℕ) → tell ns ≡ x → next ≡ carried_on form.first carried (get_or ns 0 0)

    by_row : (carried next n : ℕ) (a after : Ahead) (x : A) (found : List A) (r : Result (List ℕ × Ahead) Stopped)
        → row_decoded form bound carried a ≡ r → entry_meant tell r ≡ Ok (x, after) → IsCarried carried x next
        → entries_meant tell found (rows_decoded form bound carried (suc n) a)
        ≡ entries_meant tell (found ++ x ∷ []) (rows_decoded form bound next n after)
    unfolding rows_decoded
    by_row carried next n a after x found (Err e) is h goes = cc
    by_row carried next n a after x found (Ok q) is h goes =
        let same : (tell q.0, q.1) ≡ (x, after) = ok_same {E = Stopped} (tell q.0, q.1) (x, after) h in
        let means : tell q.0 ≡ x = ap (λ (p : A × Ahead). p.0) same in
        let behind : q.1 ≡ after = ap (λ (p : A × Ahead). p.1) same in
        let on : ℕ = carried_on form.first carried (get_or q.0 0 0) in
        rw is (first_meant found q.0 (rows_decoded form bound on n q.1))
        ∙ ap (λ (y : A). entries_meant tell (found ++ y ∷ []) (rows_decoded form bound on n q.1)) means
        ∙ ap (λ (b : Ahead). entries_meant tell (found ++ x ∷ []) (rows_decoded form bound on n b)) behind
        ∙ ap (λ (k : ℕ). entries_meant tell (found ++ x ∷ []) (rows_decoded form bound k n after))
        (sym (goes q.0 means))

    -- one entry more
    pub one_more : (carried next n : ℕ) (a after : Ahead) (x : A) (found : List A)
        → entry_meant tell (row_decoded form bound carried a) ≡ Ok (x, after) → IsCarried carried x next
        → entries_meant tell found (rows_decoded form bound carried (suc n) a)
        ≡ entries_meant tell (found ++ x ∷ []) (rows_decoded form bound next n after)
    one_more carried next n a after x found h goes =
        by_row carried next n a after x found (row_decoded form bound carried a) refl h goes

    -- an entry of such words that are ahead, and one that is wrong
    module _ (carried at : ℕ) (ws ns rest : List ℕ) (split : ws ≡ ns ++ rest) (long : length ns ≡ width form) where
      right_by : None ≡ fault_in_row form bound carried ns
          → entry_meant tell (row_decoded form bound carried (ahead at ws)) ≡ Ok (tell ns, ahead (at + width form) rest)
      right_by right =
          ap (λ (us : List ℕ). entry_meant tell (row_decoded form bound carried (ahead at us))) split
          ∙ ap (entry_meant tell) (tells_first (width form)
          (λ row. unless_wrong row (fault_in_row form bound carried row)) at ns rest ns long
          (ap (unless_wrong ns) (sym right)))

      wrong_by : (kind : Kind) → Some kind ≡ fault_in_row form bound carried ns
          → entry_meant tell (row_decoded form bound carried (ahead at ws)) ≡ Err (bad_entry at kind)
      wrong_by kind wrong =
          ap (λ (us : List ℕ). entry_meant tell (row_decoded form bound carried (ahead at us))) split
          ∙ ap (entry_meant tell) (wrong_first (width form)
          (λ row. unless_wrong row (fault_in_row form bound carried row)) at ns rest kind long
          (ap (unless_wrong ns) (sym wrong)))

    pub one_right : (carried at : ℕ) (ws : List ℕ) → 1 ≤ length ws → 1 ≡ width form
        → None ≡ fault_in_row form bound carried (get_or ws 0 0 ∷ [])
        → entry_meant tell (row_decoded form bound carried (ahead at ws))
        ≡ Ok (tell (get_or ws 0 0 ∷ []), ahead (at + 1) (slice_range ws 1 (length ws)))
    one_right carried at ws some long right =
        subst
        (λ (k : ℕ). entry_meant tell (row_decoded form bound carried (ahead at ws))
        ≡ Ok (tell (get_or ws 0 0 ∷ []), ahead (at + k) (slice_range ws 1 (length ws)))) (sym long)
        (right_by carried at ws (get_or ws 0 0 ∷ []) (slice_range ws 1 (length ws)) (split_one ws some) long right)

    pub one_wrong : (carried at : ℕ) (ws : List ℕ) (kind : Kind) → 1 ≤ length ws → 1 ≡ width form
        → Some kind ≡ fault_in_row form bound carried (get_or ws 0 0 ∷ [])
        → entry_meant tell (row_decoded form bound carried (ahead at ws)) ≡ Err (bad_entry at kind)
    one_wrong carried at ws kind some long wrong =
        wrong_by carried at ws (get_or ws 0 0 ∷ []) (slice_range ws 1 (length ws)) (split_one ws some) long kind wrong

    pub three_right : (carried at : ℕ) (ws : List ℕ) → 3 ≤ length ws → 3 ≡ width form
        → None ≡ fault_in_row form bound carried (get_or ws 0 0 ∷ get_or ws 1 0 ∷ get_or ws 2 0 ∷ [])
        → entry_meant tell (row_decoded form bound carried (ahead at ws))
        ≡ Ok (
          tell (get_or ws 0 0 ∷ get_or ws 1 0 ∷ get_or ws 2 0 ∷ []),
          ahead (at + 3) (slice_range ws 3 (length ws)),
        )
    three_right carried at ws some long right =
        subst
        (λ (k : ℕ). entry_meant tell (row_decoded form bound carried (ahead at ws))
        ≡ Ok (
          tell (get_or ws 0 0 ∷ get_or ws 1 0 ∷ get_or ws 2 0 ∷ []),
          ahead (at + k) (slice_range ws 3 (length ws)),
        )) (sym long)
        (right_by carried at ws (get_or ws 0 0 ∷ get_or ws 1 0 ∷ get_or ws 2 0 ∷ []) (slice_range ws 3 (length ws))
        (split_three ws some) long right)

    pub three_wrong : (carried at : ℕ) (ws : List ℕ) (kind : Kind) → 3 ≤ length ws → 3 ≡ width form
        → Some kind ≡ fault_in_row form bound carried (get_or ws 0 0 ∷ get_or ws 1 0 ∷ get_or ws 2 0 ∷ [])
        → entry_meant tell (row_decoded form bound carried (ahead at ws)) ≡ Err (bad_entry at kind)
    three_wrong carried at ws kind some long wrong =
        wrong_by carried at ws (get_or ws 0 0 ∷ get_or ws 1 0 ∷ get_or ws 2 0 ∷ []) (slice_range ws 3 (length ws))
        (split_three ws some) long kind wrong

    wrong_row : (carried n : ℕ) (a : Ahead) (found : List A) (e : Stopped)
        (r : Result (List ℕ × Ahead) Stopped) → row_decoded form bound carried a ≡ r → entry_meant tell r ≡ Err e
        → entries_meant tell found (rows_decoded form bound carried (suc n) a) ≡ Err e
    unfolding rows_decoded
    wrong_row carried n a found e (Ok q) is h = cc
    wrong_row carried n a found e (Err d) is h =
        let same : d ≡ e = cc in rw is (ap (λ (f : Stopped). Err f) same)

    -- an entry that is wrong
    pub wrong_one : (carried n : ℕ) (a : Ahead) (found : List A) (e : Stopped)
        → entry_meant tell (row_decoded form bound carried a) ≡ Err e
        → entries_meant tell found (rows_decoded form bound carried (suc n) a) ≡ Err e
    wrong_one carried n a found e h = wrong_row carried n a found e (row_decoded form bound carried a) refl h

    -- what all tells, where these entries are still to be read after those that were found
    module _ (carried left : ℕ) (a : Ahead) (found : List A) (all : Result (List A × Ahead) Stopped)
        (tells : entries_meant tell found (rows_decoded form bound carried left a) ≡ all) where
      pub more_found : (next next_left : ℕ) (after : Ahead) (x : A) (now_found : List A) → 0 < left
          → next_left ≡ left - 1 → entry_meant tell (row_decoded form bound carried a) ≡ Ok (x, after)
          → IsCarried carried x next → now_found ≡ found ++ x ∷ []
          → entries_meant tell now_found (rows_decoded form bound next next_left after) ≡ all
      more_found next next_left after x now_found some less h goes pushed =
          let one : suc next_left ≡ left = omega arith in
          ap (λ (xs : List A). entries_meant tell xs (rows_decoded form bound next next_left after)) pushed
          ∙ sym (one_more carried next next_left a after x found h goes)
          ∙ ap (λ (k : ℕ). entries_meant tell found (rows_decoded form bound carried k a)) one ∙ tells

      pub wrong_found : (e : Stopped) → 0 < left → entry_meant tell (row_decoded form bound carried a) ≡ Err e
          → all ≡ Err e
      wrong_found e some h =
          let one : left ≡ suc (left - 1) = omega arith in
          sym tells ∙ ap (λ (k : ℕ). entries_meant tell found (rows_decoded form bound carried k a)) one
          ∙ wrong_one carried (left - 1) a found e h

      pub all_found : left ≡ 0 → all ≡ Ok (found, a)
      unfolding rows_decoded
      all_found none =
          sym tells ∙ ap (λ (k : ℕ). entries_meant tell found (rows_decoded form bound carried k a)) none
          ∙ ap (λ (xs : List A). Ok (xs, a)) (append-nil found)

-- sizes that were read add up to no more than their bound
sizes_fit : (m start count : ℕ) (a after : Ahead) (before found : List ℕ)
    (r : Result (List (List ℕ) × Ahead) Stopped) → rows_decoded size_form m start count a ≡ r → start ≡ sum before
    → start ≤ m → entries_meant size_of before r ≡ Ok (found, after) → sum found ≤ m
sizes_fit m start count a after before found (Err e) is from low h = cc
sizes_fit m start count a after before found (Ok rows) is from low h =
    let same = ok_same {E = Stopped} (before ++ map size_of rows.0, rows.1) (found, after) h in
    let all : start + sum (map size_of rows.0) ≤ m =
    sizes_within m start rows.0 low (rows_found size_form m start count a rows is).good in
    subst (λ (p : List ℕ × Ahead). sum p.0 ≤ m) same
    (omega (arith, all, from, sum_by-append (λ (k : ℕ). k) before (map size_of rows.0)))

pub sizes_given : {X : Type 0} (m start count : ℕ) (a after : Ahead) (before found : List ℕ)
    (result : Result X Stopped) → start ≡ sum before → sum before ≤ m
    → GivesOrMemory (λ _. (found, after)) result (entries_meant size_of before (rows_decoded size_form m start count a))
    → OnOk result (sum found ≤ m)
sizes_given m start count a after before found (Ok x) from low h =
    sizes_fit m start count a after before found (rows_decoded size_form m start count a) refl from (omega arith) h
sizes_given m start count a after before found (Err e) from low h = tt

-- one section more, or one that is wrong
module _ (h : Header) (s : Section) (ss : List Section) (c : Circuit) (a : Ahead) where
  pub more_sections : (d : Circuit) (b : Ahead) → section_decoded (in_ascii s) h c a ≡ Ok (d, b)
      → sections_decoded h (s ∷ ss) c a ≡ sections_decoded h ss d b
  unfolding sections_decoded
  more_sections d b is = rw is refl

  pub wrong_section : (e : Stopped) → section_decoded (in_ascii s) h c a ≡ Err e
      → sections_decoded h (s ∷ ss) c a ≡ Err e
  unfolding sections_decoded
  wrong_section e is = rw is refl
