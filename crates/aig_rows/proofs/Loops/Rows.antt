-- Reading rows one after another.
use Rattle.std.proofs.Common.{◌≡◌, ◌+◌, ◌≤◌, ◌∷◌, subst, length, rules, ℕ, zero, suc, List, [], map, get_or, false}
use Rattle.std.proofs.Common.{Option, Some, None, Ok, Err, refl, arith, sum, ltb-false}
use Rattle.aig_rows.specs.Scanning.{numbers_at}
use Rattle.std.proofs.lemmas.List.Sums.{sum_by-cons}
use Rattle.aig_fault.specs.declared.stopped.Stopped.{Stopped}
use Rattle.aig_fault.specs.declared.kind.Kind.TheVariants as kinds
use Rattle.aig_rows.specs.declared.row.Role.TheVariants as roles
use Rattle.aig_lines.specs.Lines.{Line, Ahead}
use Rattle.aig_rows.specs.Rows.{Role, Form, size_form, size_of}
use Rattle.aig_rows.specs.Outcomes.{row_meant}
use Rattle.aig_rows.specs.Reading.{◌>>=◌, Found, carried_on, oversizes, fault_in_row, checked_row, row_of, line_found}
use Rattle.aig_rows.specs.Reading.{row_at, rows_at}
use Rattle.aig_rows.proofs.Steps.{both_ok, ok_at_line, ok_same}
use Rattle.aig_rows.proofs.Kept.Checks.{first_is_right, right_parts}

-- what comes after a row that is right
abbrev with_first : {X : Type 0} → X → List X × Ahead → Found (List X)
with_first x others = Ok (x ∷ others.0, others.1)

-- a row that is read has no fault
checked_is_right : (form : Form) (m carried : ℕ) (read : Option (List ℕ)) (ns : List ℕ)
    → checked_row form m carried read ≡ Ok ns → fault_in_row form m carried ns ≡ None
unfolding checked_row
checked_is_right form m carried None ns h = cc
checked_is_right form m carried (Some ms) ns h = search (rules, ok_same)

line_is_right : (form : Form) (m carried : ℕ) (l : Line) (ns : List ℕ) → row_of form m carried l ≡ Ok ns
    → fault_in_row form m carried ns ≡ None
unfolding row_of
line_is_right form m carried l ns h =
    checked_is_right form m carried (numbers_at l.ended form.least (length form.others) l.text) ns h

right_ahead : (form : Form) (m carried n : ℕ) (ls : List Line) (ns : List ℕ) (after : Ahead)
    → line_found kinds.Truncated (row_of form m carried) n ls ≡ Ok (ns, after) → fault_in_row form m carried ns ≡ None
right_ahead form m carried n [] ns after h = cc
right_ahead form m carried n (l ∷ ls) ns after h = search (rules, both_ok, ok_same, line_is_right, ok_at_line)

row_is_right : (form : Form) (m carried : ℕ) (at : Ahead) (ns : List ℕ) (after : Ahead)
    → row_at form m carried at ≡ Ok (ns, after) → fault_in_row form m carried ns ≡ None
row_is_right form m carried at ns after h = right_ahead form m carried at.number at.lines ns after h

first_fits : (form : Form) (m carried n : ℕ) (ns : List ℕ) → fault_in_row form m carried (n ∷ ns) ≡ None
    → oversizes m carried form.first n ≡ false
first_fits form m carried n ns right =
    (first_is_right m carried _ form.first n form.others ns (right_parts form m carried (n ∷ ns) right)).0.sized

-- a size that is read does not make the sum too large
size_small : (form : Form) (m carried : ℕ) (ns : List ℕ) → fault_in_row form m carried ns ≡ None → carried ≤ m
    → form.first ≡ roles.Size → carried + get_or ns 0 0 ≤ m
size_small form m carried [] right l is = omega arith
size_small form m carried (n ∷ ns) right l is = search (rules, ltb-false, first_fits)

-- what is carried on is not much larger than what was carried, or within the bound
on_nothing : (r : Role) (carried limit : ℕ) → carried ≤ limit → carried_on r carried 0 ≤ limit + 2
on_nothing roles.Size carried limit low = omega arith
on_nothing r carried limit low = omega arith

on_number : (r : Role) (m carried limit n : ℕ) → oversizes m carried r n ≡ false → carried ≤ limit → m ≤ limit
    → carried_on r carried n ≤ limit + 2
on_number roles.Size m carried limit n h low bound =
    let small : carried + n ≤ m = ltb-false m (carried + n) h in omega arith
on_number r m carried limit n h low bound = omega arith

on_small : (form : Form) (m carried limit : ℕ) (ns : List ℕ) → fault_in_row form m carried ns ≡ None
    → carried ≤ limit → m ≤ limit → carried_on form.first carried (get_or ns 0 0) ≤ limit + 2
on_small form m carried limit [] right low bound = on_nothing form.first carried limit low
on_small form m carried limit (n ∷ ns) right low bound =
    on_number form.first m carried limit n (first_fits form m carried n ns right) low bound

-- the row that is read, and what it means
pub record MeantRow {A : Type 0} (tell : List ℕ → A) (x : A) (after : Ahead) (r : Found (List ℕ)) : Type 0 where
  pub numbers : List ℕ
  pub is : r ≡ Ok (numbers, after)
  pub means : tell numbers ≡ x

pub meant_row : {A : Type 0} (tell : List ℕ → A) (x : A) (after : Ahead) (r : Found (List ℕ))
    → row_meant tell r ≡ Ok (x, after) → MeantRow tell x after r
meant_row tell x after (Err e) h = cc
meant_row tell x after (Ok y) h = search (rules, ok_same)

module _ {A : Type 0} (tell : List ℕ → A) (form : Form) (m : ℕ) where
  abbrev then_rows : ℕ → ℕ → List ℕ × Ahead → Found (List (List ℕ))
  then_rows carried count first =
      ◌>>=◌ {B = List (List ℕ) × Ahead}
      (rows_at form m (carried_on form.first carried (get_or first.0 0 0)) count first.1) (with_first first.0)

  -- what is carried on after a row that means this
  abbrev pub IsCarried : ℕ → A → ℕ → Type 0
  IsCarried carried x next = (ns : List ℕ) → tell ns ≡ x → next ≡ carried_on form.first carried (get_or ns 0 0)

  -- what is carried stays small
  pub carried_small : (carried next limit : ℕ) (at after : Ahead) (x : A)
      → row_meant tell (row_at form m carried at) ≡ Ok (x, after) → IsCarried carried x next → carried ≤ limit
      → m ≤ limit → next ≤ limit + 2
  carried_small carried next limit at after x h goes low bound = search (rules, meant_row, row_is_right, on_small)

-- sizes that are read add up to no more than their bound
more_sizes : (m carried n : ℕ) (ns : List ℕ) → carried + n + sum ns ≤ m → carried + sum (n ∷ ns) ≤ m
more_sizes m carried n ns l = omega (arith, l, sum_by-cons (λ (k : ℕ). k) n ns)

pub sizes_small : (m carried count : ℕ) (at after : Ahead) (rows : List (List ℕ)) → carried ≤ m
    → rows_at size_form m carried count at ≡ Ok (rows, after) → carried + sum (map size_of rows) ≤ m
unfolding rows_at
sizes_small m carried zero at after rows l h = search (rules, ok_same)
sizes_small m carried (suc count) at after rows l h =
    let f = both_ok (row_at size_form m carried at) (then_rows size_of size_form m carried count) (rows, after) h in
    let n = get_or f.0.0 0 0 in
    let o =
    both_ok (rows_at size_form m (carried + n) count f.0.1) (with_first f.0.0) (rows, after) f.2 in
    let whole : (f.0.0 ∷ o.0.0, o.0.1) ≡ (rows, after) =
    ok_same {E = Stopped} (f.0.0 ∷ o.0.0, o.0.1) (rows, after) o.2 in
    let right = row_is_right size_form m carried at f.0.0 f.0.1 f.1 in
    subst (λ (q : List (List ℕ) × Ahead). carried + sum (map size_of q.0) ≤ m) whole
    (more_sizes m carried n (map size_of o.0.0)
    (sizes_small m (carried + n) count f.0.1 o.0.1 o.0.0 (size_small size_form m carried f.0.0 right l refl) o.1))
