-- Rows of which the first were read: what the others are read as, and where they stand.
use Rattle.std.proofs.Common.{◌≡◌, ◌≢◌, ◌+◌, ◌-◌, ◌<◌, ◌∙◌, ◌∷◌, ◌++◌, ℕ, zero, suc, List, [], map, get_or, length}
use Rattle.std.proofs.Common.{Result, Ok, Err, refl, sym, ap, subst, append_assoc, append-nil, length-append}
use Rattle.std.proofs.Common.{arith}
use Rattle.std.proofs.lemmas.List.{map-append}
use Rattle.aig_fault.specs.declared.stopped.Stopped.{Stopped}
use Rattle.aig_fault.specs.declared.kind.Kind.{Kind}
use Rattle.aig_fault.specs.declared.kind.Kind.TheVariants as kinds
use Rattle.aig_lines.specs.Lines.{Line, Ahead, IsBehind, ahead, lines_of, with_lines}
use Rattle.aig_rows.specs.Rows.{Role, Form}
use Rattle.aig_rows.specs.Outcomes.{row_meant}
use Rattle.aig_rows.specs.Reading.{◌>>=◌, Found, carried_on, at_line, line_found, row_of, row_at, rows_at}
use Rattle.aig_rows.specs.declared.rows.Due.{Due}
use Rattle.aig_rows.specs.Begun.{carried_over, AreFirst, HaveRead}
use Rattle.aig_rows.proofs.Steps.{both_ok, ok_same}
use Rattle.aig_lines.proofs.Cutting.{some_lines}
use Rattle.aig_rows.proofs.Loops.Rows.{IsCarried, meant_row}

-- what the first line tells, where more lines come after those
module _ {A : Type 0} (missing : Kind) (tell : Line → Result A Kind) (n : ℕ) where
  told_by : (ls more : List Line) (r : Result A Stopped) (p : A × Ahead)
      → ◌>>=◌ {B = A × Ahead} r (λ found. Ok (found, ahead (n + 1) ls)) ≡ Ok p
      → ◌>>=◌ {B = A × Ahead} r (λ found. Ok (found, ahead (n + 1) (ls ++ more))) ≡ Ok (p.0, with_lines p.1 more)
  told_by ls more (Ok x) p h =
      ap (λ (q : A × Ahead). Ok (q.0, with_lines q.1 more)) (ok_same {E = Stopped} (x, ahead (n + 1) ls) p h)
  told_by ls more (Err e) p h = cc

  pub found_joined : (ls more : List Line) (p : A × Ahead) → line_found missing tell n ls ≡ Ok p
      → line_found missing tell n (ls ++ more) ≡ Ok (p.0, with_lines p.1 more)
  found_joined [] more p h = cc
  found_joined (l ∷ ls) more p h = told_by ls more (at_line n (tell l)) p h

  refused_by : (ls more : List Line) (r : Result A Stopped) (e : Stopped)
      → ◌>>=◌ {B = A × Ahead} r (λ found. Ok (found, ahead (n + 1) ls)) ≡ Err e
      → ◌>>=◌ {B = A × Ahead} r (λ found. Ok (found, ahead (n + 1) (ls ++ more))) ≡ Err e
  refused_by ls more (Ok x) e h = cc
  refused_by ls more (Err d) e h = cc

  pub refused_joined : (ls more : List Line) (e : Stopped) → ls ≢ [] → line_found missing tell n ls ≡ Err e
      → line_found missing tell n (ls ++ more) ≡ Err e
  refused_joined [] more e some h = absurd (some refl)
  refused_joined (l ∷ ls) more e some h = refused_by ls more (at_line n (tell l)) e h

  behind_by : (l : Line) (ls : List Line) (r : Result A Stopped) (p : A × Ahead)
      → ◌>>=◌ {B = A × Ahead} r (λ found. Ok (found, ahead (n + 1) ls)) ≡ Ok p → IsBehind (ahead n (l ∷ ls)) p.1
  behind_by l ls (Ok x) p h =
      subst (λ (q : A × Ahead). IsBehind (ahead n (l ∷ ls)) q.1)
      (ok_same {E = Stopped} (x, ahead (n + 1) ls) p h)
      (record { front = l ∷ []; lines = refl; number = refl })
  behind_by l ls (Err e) p h = cc

  pub found_behind : (ls : List Line) (p : A × Ahead) → line_found missing tell n ls ≡ Ok p
      → IsBehind (ahead n ls) p.1
  found_behind [] p h = cc
  found_behind (l ∷ ls) p h = behind_by l ls (at_line n (tell l)) p h

pub behind_more : (at mid now : Ahead) → IsBehind at mid → IsBehind mid now → IsBehind at now
behind_more at mid now a b = record {
  front = a.front ++ b.front;
  lines = a.lines ∙ ap (λ (ls : List Line). a.front ++ ls) b.lines ∙ sym (append_assoc a.front b.front now.lines);
  number = omega (arith, a.number, b.number, length-append a.front b.front);
}

-- rows after those that were read
abbrev pub after_rows : List (List ℕ) → Found (List (List ℕ)) → Found (List (List ℕ))
after_rows rows (Ok x) = Ok (rows ++ x.0, x.1)
after_rows rows (Err e) = Err e

abbrev with_first : List ℕ → List (List ℕ) × Ahead → Found (List (List ℕ))
with_first x others = Ok (x ∷ others.0, others.1)

none_before : (r : Found (List (List ℕ))) → r ≡ after_rows [] r
none_before (Ok x) = refl
none_before (Err e) = refl

first_before : (x : List ℕ) (rows : List (List ℕ)) (r : Found (List (List ℕ)))
    → ◌>>=◌ {B = List (List ℕ) × Ahead} (after_rows rows r) (with_first x) ≡ after_rows (x ∷ rows) r
first_before x rows (Ok y) = refl
first_before x rows (Err e) = refl

module _ (form : Form) (m : ℕ) where
  abbrev next : ℕ → List ℕ → ℕ
  next carried ns = carried_on form.first carried (get_or ns 0 0)

  abbrev then_rows : ℕ → ℕ → List ℕ × Ahead → Found (List (List ℕ))
  then_rows carried n first =
      ◌>>=◌ {B = List (List ℕ) × Ahead} (rows_at form m (next carried first.0) n first.1) (with_first first.0)

  -- the first row, and the others
  record IsParted (carried n : ℕ) (at : Ahead) (p : List (List ℕ) × Ahead) : Type 0 where
    pub first : List ℕ × Ahead
    pub others : List (List ℕ) × Ahead
    pub row : row_at form m carried at ≡ Ok first
    pub rows : rows_at form m (next carried first.0) n first.1 ≡ Ok others
    pub whole : (first.0 ∷ others.0, others.1) ≡ p

  parted : (carried n : ℕ) (at : Ahead) (p : List (List ℕ) × Ahead) → rows_at form m carried (suc n) at ≡ Ok p
      → IsParted carried n at p
  unfolding rows_at
  parted carried n at p h =
      let f = both_ok (row_at form m carried at) (then_rows carried n) p h in
      let o = both_ok (rows_at form m (next carried f.0.0) n f.0.1) (with_first f.0.0) p f.2 in
      record {
        first = f.0;
        others = o.0;
        row = f.1;
        rows = o.1;
        whole = ok_same {E = Stopped} (f.0.0 ∷ o.0.0, o.0.1) p o.2;
      }

  abbrev Splits : (n k carried : ℕ) (at : Ahead) (p : List (List ℕ) × Ahead) → Type 0
  Splits n k carried at p =
      rows_at form m carried (n + k) at
      ≡ after_rows p.0 (rows_at form m (carried_over form.first carried p.0) k p.1)

  pub rows_split : (n k carried : ℕ) (at : Ahead) (p : List (List ℕ) × Ahead) → rows_at form m carried n at ≡ Ok p
      → Splits n k carried at p
  unfolding rows_at
  rows_split zero k carried at p h =
      let none : 0 + k ≡ k = omega arith in
      subst (Splits 0 k carried at) (ok_same {E = Stopped} ([], at) p h)
      (rw none (none_before (rows_at form m carried k at)))
  rows_split (suc n) k carried at p h =
      let t = parted carried n at p h in
      let one : suc n + k ≡ suc (n + k) = omega arith in
      subst (Splits (suc n) k carried at) t.whole
      (rw (one, t.row, rows_split n k (next carried t.first.0) t.first.1 t.others t.rows)
      (first_before t.first.0 t.others.0 _))

  pub rows_joined : (n carried : ℕ) (at : Ahead) (more : List Line) (p : List (List ℕ) × Ahead)
      → rows_at form m carried n at ≡ Ok p
      → rows_at form m carried n (with_lines at more) ≡ Ok (p.0, with_lines p.1 more)
  unfolding rows_at
  rows_joined zero carried at more p h =
      ap (λ (q : List (List ℕ) × Ahead). Ok (q.0, with_lines q.1 more)) (ok_same {E = Stopped} ([], at) p h)
  rows_joined (suc n) carried at more p h =
      let t = parted carried n at p h in
      let row = found_joined kinds.Truncated (row_of form m carried) at.number at.lines more t.first t.row in
      subst (λ (q : List (List ℕ) × Ahead). rows_at form m carried (suc n) (with_lines at more)
      ≡ Ok (q.0, with_lines q.1 more)) t.whole
      (rw (row, rows_joined n (next carried t.first.0) t.first.1 more t.others t.rows) refl)

  pub rows_behind : (n carried : ℕ) (at : Ahead) (p : List (List ℕ) × Ahead) → rows_at form m carried n at ≡ Ok p
      → IsBehind at p.1
  unfolding rows_at
  rows_behind zero carried at p h =
      subst (λ (q : List (List ℕ) × Ahead). IsBehind at q.1) (ok_same {E = Stopped} ([], at) p h)
      (record { front = []; lines = refl; number = omega arith })
  rows_behind (suc n) carried at p h =
      let t = parted carried n at p h in
      subst (λ (q : List (List ℕ) × Ahead). IsBehind at q.1) t.whole
      (behind_more at t.first.1 t.others.1
      (found_behind kinds.Truncated (row_of form m carried) at.number at.lines t.first t.row)
      (rows_behind n (next carried t.first.0) t.first.1 t.others t.rows))

  -- whatever lines come: the rows that were due are the first ones and those that are due now
  pub rows_go_on : (due left : Due) (at now : Ahead) (rows : List (List ℕ)) (more : List Line)
      → AreFirst form m due left at now rows
      → rows_at form m due.carried due.count (with_lines at more)
      ≡ after_rows rows (rows_at form m left.carried left.count (with_lines now more))
  rows_go_on due left at now rows more first =
      let all : due.count ≡ due.count - left.count + left.count = omega (arith, first.fewer) in
      ap (λ (k : ℕ). rows_at form m due.carried k (with_lines at more)) all
      ∙ rows_split (due.count - left.count) left.count due.carried (with_lines at more) (rows, with_lines now more)
      (rows_joined (due.count - left.count) due.carried at more (rows, now) first.read)
      ∙ ap (λ (c : ℕ). after_rows rows (rows_at form m c left.count (with_lines now more))) (sym first.carried)

  -- one more row
  carried_next : (r : Role) (carried : ℕ) (rows : List (List ℕ)) (ns : List ℕ)
      → carried_over r carried (rows ++ ns ∷ []) ≡ carried_on r (carried_over r carried rows) (get_or ns 0 0)
  carried_next r carried [] ns = refl
  carried_next r carried (x ∷ rows) ns = carried_next r (carried_on r carried (get_or x 0 0)) rows ns

  one_row : (carried : ℕ) (now after : Ahead) (ns : List ℕ) → row_at form m carried now ≡ Ok (ns, after)
      → rows_at form m carried 1 now ≡ Ok (ns ∷ [], after)
  unfolding rows_at
  one_row carried now after ns h = rw h refl

  pub one_more : (due left next_due : Due) (at now after : Ahead) (rows : List (List ℕ)) (ns : List ℕ)
      → AreFirst form m due left at now rows → 0 < left.count → row_at form m left.carried now ≡ Ok (ns, after)
      → next_due.count ≡ left.count - 1 → next_due.carried ≡ next left.carried ns
      → AreFirst form m due next_due at after (rows ++ ns ∷ [])
  one_more due left next_due at now after rows ns first some h count carried = record {
    fewer = omega (arith, first.fewer, count);
    read =
        let n : due.count - next_due.count ≡ due.count - left.count + 1 = omega (arith, first.fewer, count, some) in
        ap (λ (k : ℕ). rows_at form m due.carried k at) n
        ∙ rows_split (due.count - left.count) 1 due.carried at (rows, now) first.read
        ∙ ap (λ (c : ℕ). after_rows rows (rows_at form m c 1 now)) (sym first.carried)
        ∙ ap (after_rows rows) (one_row left.carried now after ns h);
    carried =
        carried ∙ ap (λ (c : ℕ). next c ns) first.carried ∙ sym (carried_next form.first due.carried rows ns);
  }

  pub none_yet : (due : Due) (at : Ahead) → AreFirst form m due due at at []
  unfolding rows_at
  none_yet due at = record {
    fewer = omega arith;
    read = let none : due.count - due.count ≡ 0 = omega arith in rw none refl;
    carried = refl;
  }

  -- a row that is wrong, or missing
  pub row_wrong : (carried n : ℕ) (at : Ahead) (e : Stopped) → row_at form m carried at ≡ Err e
      → rows_at form m carried (suc n) at ≡ Err e
  unfolding rows_at
  row_wrong carried n at e h = rw h refl

  pub first_wrong : (due left : Due) (at now : Ahead) (rows : List (List ℕ)) (more : List Line) (e : Stopped)
      → AreFirst form m due left at now rows → 0 < left.count → row_at form m left.carried (with_lines now more) ≡ Err e
      → rows_at form m due.carried due.count (with_lines at more) ≡ Err e
  first_wrong due left at now rows more e first some h =
      let one : left.count ≡ suc (left.count - 1) = omega (arith, some) in
      rows_go_on due left at now rows more first
      ∙ ap (λ (k : ℕ). after_rows rows (rows_at form m left.carried k (with_lines now more))) one
      ∙ ap (after_rows rows) (row_wrong left.carried (left.count - 1) (with_lines now more) e h)

-- what the rows mean stands after what was found
module _ {A : Type 0} (tell : List ℕ → A) (form : Form) (m : ℕ) where
  pub have_none : (due : Due) (before : List A) (at : Ahead) → HaveRead tell form m due due before before at at
  have_none due before at = record { rows = []; first = none_yet form m due at; meant = sym (append-nil before) }

  pub have_more : (due left next_due : Due) (before found now_found : List A) (at now after : Ahead) (x : A)
      → HaveRead tell form m due left before found at now → 0 < left.count
      → row_meant tell (row_at form m left.carried now) ≡ Ok (x, after)
      → IsCarried tell form m left.carried x next_due.carried → next_due.count ≡ left.count - 1
      → now_found ≡ found ++ x ∷ []
      → HaveRead tell form m due next_due before now_found at after
  have_more due left next_due before found now_found at now after x h some row goes count pushed =
      let r = meant_row tell x after (row_at form m left.carried now) row in
      record {
        rows = h.rows ++ r.numbers ∷ [];
        first =
            one_more form m due left next_due at now after h.rows r.numbers h.first some r.is count
            (goes r.numbers r.means);
        meant =
            pushed ∙ ap (λ (xs : List A). xs ++ x ∷ []) h.meant
            ∙ append_assoc before (map tell h.rows) (x ∷ [])
            ∙ ap (λ (y : A). before ++ (map tell h.rows ++ y ∷ [])) (sym r.means)
            ∙ ap (λ (xs : List A). before ++ xs) (sym (map-append tell h.rows (r.numbers ∷ [])));
      }

  no_meaning : (r : Found (List ℕ)) (e : Stopped) → row_meant tell r ≡ Err e → r ≡ Err e
  no_meaning (Ok x) e h = cc
  no_meaning (Err d) e h = cc

  pub wrong_first : (due left : Due) (before found : List A) (at : Ahead) (number : ℕ) (rest : List ℕ)
      (more : List Line) (e : Stopped) → HaveRead tell form m due left before found at (ahead number (lines_of rest))
      → 0 < left.count → 0 < length rest
      → row_meant tell (row_at form m left.carried (ahead number (lines_of rest))) ≡ Err e
      → rows_at form m due.carried due.count (with_lines at more) ≡ Err e
  wrong_first due left before found at number rest more e h some bytes row =
      first_wrong form m due left at (ahead number (lines_of rest)) h.rows more e h.first some
      (refused_joined kinds.Truncated (row_of form m left.carried) number (lines_of rest) more e
      (some_lines rest bytes) (no_meaning _ e row))
