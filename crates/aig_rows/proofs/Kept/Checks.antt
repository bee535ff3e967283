-- Lines are judged by what is kept of their numbers as by the numbers.
use Rattle.std.proofs.Common.{◌≡◌, ◌<◌, ◌≤◌, ◌+◌, ◌*◌, ◌^◌, ◌∷◌, ◌||◌, ◌&&◌, ◌∙◌, ◌⊎◌, subst, rules, ℕ, List, [], Bool}
use Rattle.std.proofs.Common.{true, false, cond, map, length, drop, get_or, zero, Ok, refl, sym, ap, ap₂, arith, eqb}
use Rattle.std.proofs.Common.{ltb, inl, inr, Option, Some, None, Err, suc, pred, not, lt-ltb, le-ltb, ltb-false}
use Rattle.std.proofs.Common.{ltb-true, eqb-true, ne_eqb}
use Rattle.std.proofs.lemmas.Bool.{cases_lt, cases_Bool, or_parts, or_from, and_parts, not-true, not-false}
use Rattle.aig_circuit.specs.declared.circuit.TheConstants.{LARGEST}
use Rattle.aig_fault.specs.declared.kind.Kind.{Kind}
use Rattle.aig_fault.specs.declared.kind.Kind.TheVariants as kinds
use Rattle.aig_rows.specs.declared.row.Role.TheVariants as roles
use Rattle.std.proofs.Math.Seq.{drop-nil}
use Rattle.std.proofs.lemmas.List.{length-map}
use Rattle.aig_lines.specs.Lines.{Line, line}
use Rattle.aig_rows.specs.Scanning.{numbers_at}
use Rattle.aig_rows.specs.Rows.{Role, Form, roles_of}
use Rattle.aig_rows.specs.Reading.{is_no_variable, misdefines, exceeds, misresets, oversizes, own_literal, any_number}
use Rattle.aig_rows.specs.Reading.{fault_in_row, unless_wrong, checked_row, row_of}
use Rattle.aig_rows.specs.Outcomes.{IsBounded, AreBounded}
use Rattle.aig_rows.specs.Kept.{kept, kept_numbers}
use Rattle.aig_rows.specs.Parts.Right.{is_right, are_right}
use Rattle.aig_rows.proofs.Grammar.NumberLines.{row_reads}
use Rattle.aig_rows.proofs.Kept.Numbers.{kept_small, kept_large}

pub above_kept : (limit n : ℕ) → limit < 2 ^ 33 → ltb limit (kept n) ≡ ltb limit n
above_kept limit n l = search (rules, cases_lt, kept_small, kept_large, lt-ltb)

-- a row
variable_kept : (n : ℕ) → is_no_variable (kept n) ≡ is_no_variable n
variable_kept n = search (rules, cases_lt, kept_small, kept_large, le-ltb)

misdefines_kept : (r : Role) (n : ℕ) → misdefines r (kept n) ≡ misdefines r n
misdefines_kept roles.Definition n = variable_kept n
misdefines_kept r n = refl

exceeds_kept : (m : ℕ) → m ≤ LARGEST → (r : Role) (n : ℕ) → exceeds m r (kept n) ≡ exceeds m r n
exceeds_kept m l roles.Reset n = refl
exceeds_kept m l roles.Size n = refl
exceeds_kept m l r n = above_kept (2 * m + 1) n (omega arith)

below_kept : (n : ℕ) → ltb (kept n) 2 ≡ ltb n 2
below_kept n = search (rules, cases_lt, kept_small, kept_large, le-ltb)

same_kept : (own n : ℕ) → own < 2 ^ 36 → eqb (kept n) own ≡ eqb n own
same_kept own n l = search (rules, cases_lt, kept_small, kept_large, ne_eqb)

misresets_kept : (own : ℕ) → own < 2 ^ 36 → (r : Role) (n : ℕ) → misresets own r (kept n) ≡ misresets own r n
misresets_kept own l roles.Reset n = ap₂ (λ a b. not (a || b)) (below_kept n) (same_kept own n l)
misresets_kept own l r n = refl

sum_kept : (m c n : ℕ) → m ≤ LARGEST → ltb m (c + kept n) ≡ ltb m (c + n)
sum_kept m c n l = search (rules, cases_lt, kept_small, kept_large, lt-ltb)

oversizes_kept : (m c : ℕ) → m ≤ LARGEST → (r : Role) (n : ℕ) → oversizes m c r (kept n) ≡ oversizes m c r n
oversizes_kept m c l roles.Size n = sum_kept m c n l
oversizes_kept m c l r n = refl

any_number_kept : (test : Role → ℕ → Bool) → ((r : Role) (n : ℕ) → test r (kept n) ≡ test r n)
    → (rs : List Role) (ns : List ℕ) → any_number test rs (map kept ns) ≡ any_number test rs ns
any_number_kept test h (r ∷ rs) (n ∷ ns) = ap₂ (λ (a b : Bool). a || b) (h r n) (any_number_kept test h rs ns)
any_number_kept test h rs ns = refl

-- a number that passes each test is kept as it is
pub reset_is : (own n : ℕ) → not (ltb n 2 || eqb n own) ≡ false → (n < 2) ⊎ (n ≡ own)
reset_is own n h = search (rules, cases_Bool, ltb-true, eqb-true, not-false)

-- a number with which nothing is wrong, by the four tests
pub record IsRight (bound carried own : ℕ) (r : Role) (n : ℕ) : Type 0 where
  pub defined : misdefines r n ≡ false
  pub within : exceeds bound r n ≡ false
  pub reset : misresets own r n ≡ false
  pub sized : oversizes bound carried r n ≡ false

-- numbers with which nothing is wrong
pub record AreRight (bound carried own : ℕ) (rs : List Role) (ns : List ℕ) : Type 0 where
  pub defined : any_number misdefines rs ns ≡ false
  pub within : any_number (exceeds bound) rs ns ≡ false
  pub reset : any_number (misresets own) rs ns ≡ false
  pub sized : any_number (oversizes bound carried) rs ns ≡ false

pub first_is_right : (bound carried own : ℕ) (r : Role) (n : ℕ) (rs : List Role) (ns : List ℕ)
    → AreRight bound carried own (r ∷ rs) (n ∷ ns)
    → IsRight bound carried own r n × AreRight bound carried own rs ns
first_is_right bound carried own r n rs ns h = search (rules, or_parts)

small_number : (m c own : ℕ) (r : Role) (n : ℕ) → m ≤ LARGEST → own < 2 ^ 36 → IsRight m c own r n → n < 2 ^ 36
small_number m c own roles.Reset n l k h = search (rules, reset_is)
small_number m c own roles.Size n l k h = omega (arith, ltb-false m (c + n) h.sized)
small_number m c own r n l k h = omega (arith, ltb-false (2 * m + 1) n h.within)

none_large : (m c own : ℕ) (rs : List Role) (ns : List ℕ) → m ≤ LARGEST → own < 2 ^ 36 → length ns ≡ length rs
    → AreRight m c own rs ns → map kept ns ≡ ns
none_large m c own [] [] l k long h = refl
none_large m c own (r ∷ rs) (n ∷ ns) l k long h =
    let p = first_is_right m c own r n rs ns h in
    search (rules, kept_small, small_number, none_large m c own rs ns l k (omega arith) p.1)
none_large m c own rs ns l k long h = absurd (omega arith)

-- The literal of the row's own variable is kept as it is, where no number exceeds its bound.
own_kept : (m c : ℕ) (r : Role) (n : ℕ) → m ≤ LARGEST → exceeds m r n ≡ false
    → own_literal r c (kept n) ≡ own_literal r c n
own_kept m c roles.Definition n l e =
    let low : n ≤ 2 * m + 1 = ltb-false (2 * m + 1) n e in kept_small n (omega arith)
own_kept m c r n l e = refl

own_small : (m c : ℕ) (r : Role) (n : ℕ) → m ≤ LARGEST → c ≤ 2 ^ 35 → exceeds m r n ≡ false
    → own_literal r c n < 2 ^ 36
own_small m c roles.Definition n l k e = let low : n ≤ 2 * m + 1 = ltb-false (2 * m + 1) n e in omega arith
own_small m c r n l k e = omega arith

-- the first test that is not passed tells the fault
abbrev told : Bool → Bool → Bool → Bool → Option Kind
told a b d e =
    cond a (Some kinds.NotVariable)
    (cond b (Some kinds.LiteralRange) (cond d (Some kinds.BadReset) (cond e (Some kinds.TooLarge) None)))

wrong_anyway : (x y : List ℕ) (a d e f g : Bool)
    → unless_wrong x (told a true d e) ≡ unless_wrong y (told a true f g)
wrong_anyway x y true d e f g = refl
wrong_anyway x y false d e f g = refl

same_unless_wrong : (x y : List ℕ) (a d e : Bool) → (a ≡ false → d ≡ false → e ≡ false → x ≡ y)
    → unless_wrong x (told a false d e) ≡ unless_wrong y (told a false d e)
same_unless_wrong x y false false false h = ap (λ (ns : List ℕ). unless_wrong ns None) (h refl refl refl)
same_unless_wrong x y a d e h = refl

module _ (form : Form) (m c : ℕ) (l : m ≤ LARGEST) (k : c ≤ 2 ^ 35) where
  abbrev own_of : ℕ → ℕ
  own_of n = own_literal form.first c n

  abbrev resets_of : ℕ → List ℕ → Bool
  resets_of first ns = any_number (misresets (own_of first)) (roles_of form) ns

  abbrev sizes_of : List ℕ → Bool
  sizes_of ns = any_number (oversizes m c) (roles_of form) ns

  -- where no number exceeds its bound
  within_kept : (n : ℕ) (ns : List ℕ) → length ns ≡ length form.others
      → any_number (exceeds m) (roles_of form) (n ∷ ns) ≡ false
      → checked_row form m c (Some (map kept (n ∷ ns))) ≡ checked_row form m c (Some (n ∷ ns))
  unfolding checked_row
  within_kept n ns long within =
      let first = (or_parts (exceeds m form.first n) (any_number (exceeds m) form.others ns) within).0 in
      let small : own_of n < 2 ^ 36 = own_small m c form.first n l k first in
      let defined = any_number_kept misdefines misdefines_kept (roles_of form) (n ∷ ns) in
      let exceeded = any_number_kept (exceeds m) (exceeds_kept m l) (roles_of form) (n ∷ ns) ∙ within in
      let reset =
      ap (λ own. any_number (misresets own) (roles_of form) (map kept (n ∷ ns))) (own_kept m c form.first n l first)
      ∙ any_number_kept (misresets (own_of n)) (misresets_kept (own_of n) small) (roles_of form) (n ∷ ns) in
      let sized = any_number_kept (oversizes m c) (oversizes_kept m c l) (roles_of form) (n ∷ ns) in
      rw (defined, exceeded, reset, sized, within)
      (same_unless_wrong (map kept (n ∷ ns)) (n ∷ ns) (any_number misdefines (roles_of form) (n ∷ ns))
      (resets_of n (n ∷ ns)) (sizes_of (n ∷ ns))
      (λ a d e. none_large m c (own_of n) (roles_of form) (n ∷ ns) l small (ap suc long)
      (record { defined = a; within = within; reset = d; sized = e })))

  -- where one does
  exceeding_kept : (ns : List ℕ) → any_number (exceeds m) (roles_of form) ns ≡ true
      → checked_row form m c (Some (map kept ns)) ≡ checked_row form m c (Some ns)
  unfolding checked_row
  exceeding_kept ns h =
      let exceeded : any_number (exceeds m) (roles_of form) (map kept ns) ≡ true =
      any_number_kept (exceeds m) (exceeds_kept m l) (roles_of form) ns ∙ h in
      rw (any_number_kept misdefines misdefines_kept (roles_of form) ns, exceeded, h)
      (wrong_anyway (map kept ns) ns (any_number misdefines (roles_of form) ns)
      (resets_of (get_or (map kept ns) 0 0) (map kept ns)) (sizes_of (map kept ns))
      (resets_of (get_or ns 0 0) ns) (sizes_of ns))

  row_kept : (ns : List ℕ) → length ns ≡ length (roles_of form)
      → checked_row form m c (Some (map kept ns)) ≡ checked_row form m c (Some ns)
  row_kept [] long = absurd (omega arith)
  row_kept (n ∷ ns) long = elim (cases_Bool (any_number (exceeds m) (roles_of form) (n ∷ ns))) [
    | inl h ↦ exceeding_kept (n ∷ ns) h
    | inr h ↦ within_kept n ns (ap pred long) h
  ]

  -- a row is as long as its form
  read_long : (text : List ℕ) (ended : Bool) (read : Option (List ℕ)) → form.least ≤ length form.others
      → numbers_at ended form.least (length form.others) text ≡ read
      → checked_row form m c (kept_numbers read) ≡ checked_row form m c read
  read_long text ended None small h = refl
  read_long text ended (Some ns) small h =
      row_kept ns (row_reads (line text ended) form.least (length form.others) ns small h).1

  pub row_meant : (text : List ℕ) (ended : Bool) (read : Option (List ℕ)) → form.least ≤ length form.others
      → kept_numbers (numbers_at ended form.least (length form.others) text) ≡ read
      → checked_row form m c read ≡ row_of form m c (line text ended)
  unfolding row_of
  row_meant text ended read small h =
      rw (← h) (read_long text ended (numbers_at ended form.least (length form.others) text) small refl)

-- what is kept of a row is as long as the row
pub kept_long : (least most : ℕ) (l : Line) (read : Option (List ℕ)) (ns : List ℕ) → least ≤ most
    → numbers_at l.ended least most l.text ≡ read → kept_numbers read ≡ Some ns → length ns ≡ suc most
kept_long least most l None ns small is h = cc
kept_long least most l (Some ms) ns small is h =
    let same : map kept ms ≡ ns = cc in
    ap length (sym same) ∙ length-map ms kept ∙ (row_reads l least most ms small is).1

-- what the code finds out of a row, one after another
module _ (form : Form) (m c most : ℕ) (text : List ℕ) (ended : Bool) (small : form.least ≤ most)
    (long : length form.others ≡ most) (l : m ≤ LARGEST) (k : c ≤ 2 ^ 35) where
  row_is : (read : Option (List ℕ)) → kept_numbers (numbers_at ended form.least most text) ≡ read
      → row_of form m c (line text ended) ≡ checked_row form m c read
  row_is read h =
      sym (row_meant form m c l k text ended read (subst (λ k. form.least ≤ k) (sym long) small)
      (ap (λ k. kept_numbers (numbers_at ended form.least k text)) long ∙ h))

  pub no_row : kept_numbers (numbers_at ended form.least most text) ≡ None
      → row_of form m c (line text ended) ≡ Err kinds.BadLine
  unfolding checked_row
  no_row h = row_is None h

  pub row_wrong : (ns : List ℕ) (kind : Kind) → kept_numbers (numbers_at ended form.least most text) ≡ Some ns
      → fault_in_row form m c ns ≡ Some kind → row_of form m c (line text ended) ≡ Err kind
  unfolding checked_row
  row_wrong ns kind h e = row_is (Some ns) h ∙ ap (unless_wrong ns) e

  pub row_right : (ns : List ℕ) → kept_numbers (numbers_at ended form.least most text) ≡ Some ns
      → fault_in_row form m c ns ≡ None → row_of form m c (line text ended) ≡ Ok ns
  unfolding checked_row
  row_right ns h e = row_is (Some ns) h ∙ ap (unless_wrong ns) e

by_tests : (a b d e : Bool) → told a b d e ≡ None → (a ≡ false) × (b ≡ false) × (d ≡ false) × (e ≡ false)
by_tests false false false false h = (refl, refl, refl, refl)
by_tests a b d e h = cc

-- a row with no fault passes each test
pub right_parts : (form : Form) (m c : ℕ) (ns : List ℕ) → fault_in_row form m c ns ≡ None
    → AreRight m c (own_literal form.first c (get_or ns 0 0)) (roles_of form) ns
right_parts form m c ns h = search (rules, by_tests)

-- no number of a row that passes is above the largest literal, unless it is a reset
bounded : (m c own : ℕ) (r : Role) (n : ℕ) → IsRight m c own r n → IsBounded m r n
bounded m c own roles.Reset n h = tt
bounded m c own roles.Size n h = omega (arith, ltb-false m (c + n) h.sized)
bounded m c own r n h = ltb-false (2 * m + 1) n h.within

all_bounded : (m c own : ℕ) (rs : List Role) (ns : List ℕ) → length ns ≡ length rs → AreRight m c own rs ns
    → (k : ℕ) → IsBounded m (get_or rs k roles.Reset) (get_or ns k 0)
all_bounded m c own [] ns long h k = tt
all_bounded m c own (r ∷ rs) [] long h k = absurd (omega arith)
all_bounded m c own (r ∷ rs) (n ∷ ns) long h zero = bounded m c own r n (first_is_right m c own r n rs ns h).0
all_bounded m c own (r ∷ rs) (n ∷ ns) long h (suc k) =
    all_bounded m c own rs ns (omega arith) (first_is_right m c own r n rs ns h).1 k

-- the numbers of a row that passes
pub are_bounded : (form : Form) (m c n : ℕ) (ns : List ℕ) → length ns ≡ length form.others
    → fault_in_row form m c (n ∷ ns) ≡ None → AreBounded form m n ns
are_bounded form m c n ns long right =
    let within = all_bounded m c _ (roles_of form) (n ∷ ns) (ap suc long) (right_parts form m c (n ∷ ns) right) in
    (within 0, λ k. within (suc k))

-- numbers that are right, each with all tests at once, pass every test
not_and : (a b : Bool) → (not a && b) ≡ true → (a ≡ false) × (b ≡ true)
not_and true b h = cc
not_and false b h = (refl, h)

pass_tests : (bound own carried : ℕ) (rs : List Role) (ns : List ℕ) → are_right bound own carried rs ns ≡ true
    → AreRight bound carried own rs ns
pass_tests bound own carried (r ∷ rs) (n ∷ ns) h =
    let here = and_parts (is_right bound own carried r n) (are_right bound own carried rs ns) h in
    let a = not_and (misdefines r n) _ here.0 in
    let b = not_and (exceeds bound r n) _ a.1 in
    let d = not_and (misresets own r n) _ b.1 in
    let later = pass_tests bound own carried rs ns here.1 in
    record {
      defined = or_from (misdefines r n) _ a.0 later.defined;
      within = or_from (exceeds bound r n) _ b.0 later.within;
      reset = or_from (misresets own r n) _ d.0 later.reset;
      sized = or_from (oversizes bound carried r n) _ (not-true (oversizes bound carried r n) d.1) later.sized;
    }
pass_tests bound own carried rs ns h = record { defined = refl; within = refl; reset = refl; sized = refl }

pub right_row : (form : Form) (bound carried n : ℕ) (ns : List ℕ)
    → are_right bound (own_literal form.first carried n) carried (roles_of form) (n ∷ ns) ≡ true
    → fault_in_row form bound carried (n ∷ ns) ≡ None
right_row form bound carried n ns h = search (rules, pass_tests)

module _ (bound own carried : ℕ) where
  nothing_right : (rs : List Role) (at : ℕ) → are_right bound own carried rs (drop at []) ≡ true
  nothing_right [] at = refl
  nothing_right (r ∷ rs) at = rw (drop-nil {A = ℕ} at) refl

  -- one more number that is right, before those that are left
  pub next_right : (at : ℕ) (rs : List Role) (ns : List ℕ) (r : Role) (n : ℕ) → at < length rs
      → is_right bound own carried (get_or rs at r) (get_or ns at n) ≡ true
      → are_right bound own carried (drop (suc at) rs) (drop (suc at) ns) ≡ true
      → are_right bound own carried (drop at rs) (drop at ns) ≡ true
  next_right at [] ns r n l here left = absurd (omega arith)
  next_right zero (r ∷ rs) [] q n l here left = refl
  next_right zero (r ∷ rs) (n ∷ ns) q m l here left = rw here left
  next_right (suc at) (r ∷ rs) [] q n l here left = nothing_right (drop (suc at) (r ∷ rs)) (suc at)
  next_right (suc at) (r ∷ rs) (n ∷ ns) q m l here left = next_right at rs ns q m (omega (arith, l)) here left

  pub none_left : (at : ℕ) (rs : List Role) (ns : List ℕ) → length rs ≤ at
      → are_right bound own carried (drop at rs) (drop at ns) ≡ true
  none_left at [] ns l = rw (drop-nil {A = Role} at) refl
  none_left zero (r ∷ rs) ns l = absurd (omega arith)
  none_left (suc at) (r ∷ rs) [] l = nothing_right (drop at rs) (suc at)
  none_left (suc at) (r ∷ rs) (n ∷ ns) l = none_left at rs ns (omega arith)

pub first_right : (bound own other carried : ℕ) (r : Role) (n : ℕ) (rs : List Role) (ns : List ℕ) → own ≡ other
    → is_right bound own carried r n ≡ true → are_right bound own carried rs ns ≡ true
    → are_right bound other carried (r ∷ rs) (n ∷ ns) ≡ true
first_right bound own other carried r n rs ns same here later =
    subst (λ o. are_right bound o carried (r ∷ rs) (n ∷ ns) ≡ true) same (rw (here, later) refl)
