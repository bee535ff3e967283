-- Rows that are read spell the grammar's, and the other way round.
use Rattle.std.proofs.Common.{◌≡◌, ◌+◌, ◌*◌, ◌<◌, ◌≤◌, ◌∷◌, ◌++◌, ◌⊎◌, ◌||◌, rules, ℕ, zero, suc, true, false, List, []}
use Rattle.std.proofs.Common.{map, length, get_or, Bool, Option, None, Some, Result, Ok, refl, ap, subst, sym, arith}
use Rattle.std.proofs.Common.{inl, inr, not, ltb-false, lt-ltb, le-ltb, eq-eqb, ne_eqb, ltb, eqb}
use Rattle.std.specs.List.{AllZip}
use Rattle.std.proofs.lemmas.Slice.Zip.{AllZip-long}
use Rattle.std.proofs.lemmas.Bool.{eqb-false, or_parts, or_from}
use Rattle.aig_fault.specs.declared.stopped.Stopped.{Stopped}
use Rattle.aig_fault.specs.declared.kind.Kind.{Kind}
use Rattle.aig_fault.specs.declared.kind.Kind.TheVariants as kinds
use Rattle.aig_rows.specs.declared.row.Role.TheVariants as roles
use Rattle.aig_lines.specs.Lines.{Line, Ahead, ahead}
use Rattle.aig_rows.specs.Scanning.{numbers_at}
use Rattle.aig_rows.specs.Rows.{Role, Form, roles_of, row, IsRowLine}
use Rattle.aig_rows.specs.Reading.{◌>>=◌, Found, own_literal, carried_on, fault_in_row, unless_wrong, checked_row}
use Rattle.aig_rows.specs.Reading.{row_of, line_found, row_at, rows_at}
use Rattle.aig_rows.proofs.Steps.{both_ok, ok_at_line, ok_same}
use Rattle.aig_rows.proofs.Kept.Checks.{IsRight, AreRight, first_is_right, right_parts, reset_is}
use Rattle.aig_rows.proofs.Grammar.NumberLines.{row_reads, row_is_read}
use Rattle.aig_rows.proofs.Grammar.Entries.{MayStand, IsGoodRow, AreGoodRows}

pub or_yes : (a : Bool) → (a || true) ≡ true
or_yes true = refl
or_yes false = refl

is_reset : (own n : ℕ) → (n < 2) ⊎ (n ≡ own) → not (ltb n 2 || eqb n own) ≡ false
is_reset own n (inl small) = rw (lt-ltb n 2 small) refl
is_reset own n (inr same) = rw (eq-eqb n own same, or_yes (ltb n 2)) refl

-- a number with which nothing is wrong may stand
may_stand : (bound carried own : ℕ) (r : Role) (n : ℕ) → IsRight bound carried own r n
    → MayStand bound carried own r n
may_stand bound carried own roles.Definition n h = search (rules, ltb-false, or_parts, eqb-false)
may_stand bound carried own roles.Literal n h = ltb-false (2 * bound + 1) n h.within
may_stand bound carried own roles.Reset n h = reset_is own n h.reset
may_stand bound carried own roles.Size n h = ltb-false bound (carried + n) h.sized

is_right : (bound carried own : ℕ) (r : Role) (n : ℕ) → MayStand bound carried own r n → IsRight bound carried own r n
is_right bound carried own roles.Definition n h = search (rules, le-ltb, or_from, ne_eqb)
is_right bound carried own roles.Literal n h =
    record { defined = refl; within = le-ltb (2 * bound + 1) n h; reset = refl; sized = refl }
is_right bound carried own roles.Reset n h =
    record { defined = refl; within = refl; reset = is_reset own n h; sized = refl }
is_right bound carried own roles.Size n h =
    record { defined = refl; within = refl; reset = refl; sized = le-ltb bound (carried + n) h }

module _ (bound carried own : ℕ) where
  more_right : (r : Role) (n : ℕ) (rs : List Role) (ns : List ℕ) → IsRight bound carried own r n
      → AreRight bound carried own rs ns → AreRight bound carried own (r ∷ rs) (n ∷ ns)
  more_right r n rs ns h g = search (rules, or_from)

  pub all_may_stand : (rs : List Role) (ns : List ℕ) → length ns ≡ length rs → AreRight bound carried own rs ns
      → AllZip (MayStand bound carried own) rs ns
  all_may_stand [] [] long h = tt
  all_may_stand (r ∷ rs) (n ∷ ns) long h =
      let p = first_is_right bound carried own r n rs ns h in
      (may_stand bound carried own r n p.0, all_may_stand rs ns (omega arith) p.1)
  all_may_stand rs ns long h = absurd (omega arith)

  pub none_wrong : (rs : List Role) (ns : List ℕ) → AllZip (MayStand bound carried own) rs ns
      → AreRight bound carried own rs ns
  none_wrong [] [] h = record { defined = refl; within = refl; reset = refl; sized = refl }
  none_wrong (r ∷ rs) (n ∷ ns) h =
      more_right r n rs ns (is_right bound carried own r n h.0) (none_wrong rs ns h.1)
  none_wrong rs ns h = absurd h

-- the own literal of the variable that a row is for
abbrev own_of : Form → ℕ → List ℕ → ℕ
own_of form carried ns = own_literal form.first carried (get_or ns 0 0)

pub unless_none : {A : Type 0} (x y : A) (o : Option Kind) → unless_wrong x o ≡ Ok y → (o ≡ None) × (x ≡ y)
unless_none x y None h = (refl, ok_same x y h)
unless_none x y (Some k) h = cc

-- a line that is read as a row holds it
abbrev pub IsSound : Form → Type 0
IsSound form = form.least ≤ length form.others

-- the row stands in the line, and may stand there beside what is carried
abbrev pub IsRowThere : Form → ℕ → ℕ → Line → List ℕ → Type 0
IsRowThere form bound carried l ns = IsRowLine l (row form ns) × IsGoodRow form bound carried ns

row_meant : (form : Form) (bound carried : ℕ) (l : Line) (read : Option (List ℕ)) (ns : List ℕ) → IsSound form
    → numbers_at l.ended form.least (length form.others) l.text ≡ read → checked_row form bound carried read ≡ Ok ns
    → IsRowThere form bound carried l ns
unfolding checked_row
row_meant form bound carried l None ns s is h = cc
row_meant form bound carried l (Some ms) ns s is h =
    let u = unless_none ms ns (fault_in_row form bound carried ms) h in
    let t = row_reads l form.least (length form.others) ms s is in
    let p = right_parts form bound carried ms u.0 in
    subst (IsRowThere form bound carried l) u.1
    (t.0, all_may_stand bound carried (own_of form carried ms) (roles_of form) ms t.1 p)

row_tells : (form : Form) (bound carried : ℕ) (l : Line) (ns : List ℕ) → IsSound form
    → row_of form bound carried l ≡ Ok ns → IsRowThere form bound carried l ns
unfolding row_of
row_tells form bound carried l ns s h =
    row_meant form bound carried l (numbers_at l.ended form.least (length form.others) l.text) ns s refl h

-- and a line that holds a good row is read as it
pub row_is_found : (form : Form) (bound carried : ℕ) (l : Line) (ns : List ℕ) → IsRowLine l (row form ns)
    → IsGoodRow form bound carried ns → row_of form bound carried l ≡ Ok ns
unfolding row_of checked_row
row_is_found form bound carried l ns h g =
    let own = own_of form carried ns in
    let long = AllZip-long (MayStand bound carried own) (roles_of form) ns g in
    let right = none_wrong bound carried own (roles_of form) ns g in
    rw (
      row_is_read l form.least (length form.others) ns h long,
      right.defined,
      right.within,
      right.reset,
      right.sized,
    ) refl

-- what is carried after a row
abbrev pub carried_behind : Form → ℕ → List ℕ → ℕ
carried_behind form carried ns = carried_on form.first carried (get_or ns 0 0)

-- so many lines that are read as rows hold them
pub record AreRows (form : Form) (bound carried count : ℕ) (ls : List Line) (rows : List (List ℕ))
    (rest : List Line) : Type 0 where
  pub front : List Line
  pub lines : ls ≡ front ++ rest
  pub spelled : AllZip IsRowLine front (map (row form) rows)
  pub good : AreGoodRows form bound carried rows
  pub counted : length rows ≡ count

one_row : (form : Form) (bound carried count : ℕ) (l : Line) (ls : List Line) (ns : List ℕ) (rows : List (List ℕ))
    (rest : List Line) → IsRowThere form bound carried l ns
    → AreRows form bound (carried_behind form carried ns) count ls rows rest
    → AreRows form bound carried (suc count) (l ∷ ls) (ns ∷ rows) rest
one_row form bound carried count l ls ns rows rest h a = record {
  front = l ∷ a.front;
  lines = ap (λ (ks : List Line). l ∷ ks) a.lines;
  spelled = (h.0, a.spelled);
  good = (h.1, a.good);
  counted = ap suc a.counted;
}

abbrev with_first : List ℕ → List (List ℕ) × Ahead → Found (List (List ℕ))
with_first first others = Ok (first ∷ others.0, others.1)

abbrev then_rows : Form → ℕ → ℕ → ℕ → List ℕ × Ahead → Found (List (List ℕ))
then_rows form bound carried count first =
    rows_at form bound (carried_behind form carried first.0) count first.1 >>= with_first first.0

-- what a line tells, and what is ahead after it
pub first_found : {A : Type 0} (missing : Kind) (tell : Line → Result A Kind) (n : ℕ) (l : Line)
    (ls : List Line) (p : A × Ahead)
    → line_found missing tell n (l ∷ ls) ≡ Ok p → (x : A) × (tell l ≡ Ok x) × ((x, ahead (n + 1) ls) ≡ p)
first_found missing tell n l ls p h = search (rules, both_ok, ok_at_line, ok_same)

rows_from : (form : Form) (bound carried count n : ℕ) (ls : List Line) (p : List (List ℕ) × Ahead) → IsSound form
    → rows_at form bound carried count (ahead n ls) ≡ Ok p → AreRows form bound carried count ls p.0 p.1.lines
unfolding rows_at
rows_from form bound carried zero n ls p s h = search (rules, ok_same)
rows_from form bound carried (suc count) n [] p s h = cc
rows_from form bound carried (suc count) n (l ∷ ls) p s h =
    let f = both_ok (row_at form bound carried (ahead n (l ∷ ls))) (then_rows form bound carried count) p h in
    let r = first_found kinds.Truncated (row_of form bound carried) n l ls f.0 f.1 in
    let next : ℕ = carried_behind form carried f.0.0 in
    let o = both_ok (rows_at form bound next count f.0.1) (with_first f.0.0) p f.2 in
    let whole : (f.0.0 ∷ o.0.0, o.0.1) ≡ p = ok_same {E = Stopped} _ _ o.2 in
    let others = rows_from form bound next count f.0.1.number f.0.1.lines o.0 s o.1 in
    let here =
    subst (λ (q : List ℕ × Ahead). IsRowThere form bound carried l q.0) r.2
    (row_tells form bound carried l r.0 s r.1) in
    let after : ls ≡ f.0.1.lines = ap (λ (q : List ℕ × Ahead). q.1.lines) r.2 in
    rw (← whole) (one_row form bound carried count l ls f.0.0 o.0.0 o.0.1.lines here
    (subst (λ (ks : List Line). AreRows form bound next count ks o.0.0 o.0.1.lines) (sym after) others))

pub rows_meant : (form : Form) (bound carried count : ℕ) (at : Ahead) (p : List (List ℕ) × Ahead) → IsSound form
    → rows_at form bound carried count at ≡ Ok p → AreRows form bound carried count at.lines p.0 p.1.lines
rows_meant form bound carried count at p s h = rows_from form bound carried count at.number at.lines p s h

-- and lines that hold good rows are read as them
abbrev pub ReadsRows : Form → ℕ → ℕ → ℕ → ℕ → List Line → List (List ℕ) → List Line → Type 0
ReadsRows form bound carried count n ls rows rest =
    (k : ℕ) × (rows_at form bound carried count (ahead n ls) ≡ Ok (rows, ahead k rest))

pub rows_are_found : (form : Form) (bound carried n : ℕ) (front rest : List Line) (rows : List (List ℕ))
    → AllZip IsRowLine front (map (row form) rows) → AreGoodRows form bound carried rows
    → ReadsRows form bound carried (length rows) n (front ++ rest) rows rest
unfolding rows_at
rows_are_found form bound carried n [] rest [] h g = (n, refl)
rows_are_found form bound carried n (l ∷ ls) rest (ns ∷ rows) h g =
    let others = rows_are_found form bound (carried_behind form carried ns) (n + 1) ls rest rows h.1 g.1 in
    (others.0, rw (row_is_found form bound carried l ns h.0 g.0, others.1) refl)
rows_are_found form bound carried n front rest rows h g = absurd h
