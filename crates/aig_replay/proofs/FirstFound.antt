-- What is found in rows is the first step that confirms a bad state.
use Rattle.std.proofs.Common.{◌≡◌, ◌≢◌, ◌+◌, ◌++◌, ℕ, zero, suc, List, [], ◌∷◌, Bool, true, false, Option, None}
use Rattle.std.proofs.Common.{Some, ap, arith, get_or, if◌then◌else◌, length, refl, subst}
use Rattle.std.specs.List.{All}
use Rattle.std.proofs.lemmas.List.Elements.{All-cons, All-head, All-nil, All-tail}
use Rattle.aig_circuit.specs.declared.value.Val.{Val}
use Rattle.aig_circuit.specs.declared.value.Val.TheVariants.{Zero, One}
use Rattle.aig_meaning.specs.Meaning.{Row}
use Rattle.aig_witness.specs.Parts.Witnessing.{are_ones, is_one}
use Rattle.aig_witness.specs.Witness.{IsHeld, IsBad, IsConfirmedAt, IsFirstConfirmed}
use Rattle.aig_witness.proofs.Witnessing.{not_one, one_of, ones_are, ones_not}
use Rattle.aig_replay.specs.declared.search.Hit.{Hit}
use Rattle.aig_replay.specs.declared.search.Sight.TheVariants.{Broken}
use Rattle.aig_replay.specs.Finding.{first_one, hit_by, hit_from, shown_bad}
use Rattle.aig_replay.specs.Laws.{FirstIsFound, IsFoundIn}

-- a 1 at a place after this one
record IsOneAt (vs : List Val) (place q : ℕ) : Type 0 where
  pub behind : ℕ
  pub is : q ≡ place + behind
  pub one : get_or vs behind Zero ≡ One

one_case : (b : Bool) (v : Val) (vs : List Val) (place q : ℕ) → is_one v ≡ b
    → (if b then Some place else first_one (suc place) vs) ≡ Some q
    → (first_one (suc place) vs ≡ Some q → IsOneAt vs (suc place) q) → IsOneAt (v ∷ vs) place q
one_case true v vs place q b is later =
    let same : place ≡ q = cc in record { behind = 0; is = omega (arith, same); one = one_of v b }
one_case false v vs place q b is later =
    let rest = later is in record { behind = suc rest.behind; is = omega (arith, rest.is); one = rest.one }

one_found : (vs : List Val) (place q : ℕ) → first_one place vs ≡ Some q → IsOneAt vs place q
one_found [] place q is = cc
one_found (v ∷ vs) place q is = one_case (is_one v) v vs place q refl is (λ e. one_found vs (suc place) q e)

none_case : (b : Bool) (v : Val) (vs : List Val) (place : ℕ) → is_one v ≡ b
    → (if b then Some place else first_one (suc place) vs) ≡ None
    → (first_one (suc place) vs ≡ None → (i : ℕ) → get_or vs i Zero ≢ One) → (i : ℕ) → get_or (v ∷ vs) i Zero ≢ One
none_case true v vs place b is later i = let no : ⊥ = cc in absurd no
none_case false v vs place b is later zero = not_one v b
none_case false v vs place b is later (suc i) = later is i

none_found : (vs : List Val) (place : ℕ) → first_one place vs ≡ None → (i : ℕ) → get_or vs i Zero ≢ One
none_found [] place is i = λ (one : Zero ≡ One). cc
none_found (v ∷ vs) place is i = none_case (is_one v) v vs place refl is (λ e. none_found vs (suc place) e) i

-- a step that confirms, seen from the first row
pub data IsSplit (p : ℕ) (row : Row) (rows : List Row) (at : ℕ) : Type 0 where
  here : at ≡ 0 → IsBad p row → IsHeld row → IsSplit p row rows at
  later : (k : ℕ) → at ≡ suc k → IsHeld row → IsConfirmedAt p rows k → IsSplit p row rows at

by_before : (p : ℕ) (row : Row) (rows : List Row) (at : ℕ) (before : List Row) (r : Row) (behind : List Row)
    → row ∷ rows ≡ before ++ r ∷ behind → at ≡ length before → IsBad p r → IsHeld r → All IsHeld before
    → IsSplit p row rows at
by_before p row rows at [] r behind parted place bad holds held =
    let same : r ≡ row = cc in here place (subst (IsBad p) same bad) (subst IsHeld same holds)
by_before p row rows at (b ∷ bs) r behind parted place bad holds held =
    let same : b ≡ row = cc in
    let rest : rows ≡ bs ++ r ∷ behind = cc in
    later (length bs) place (subst IsHeld same (All-head IsHeld b bs held)) (record {
      before = bs;
      row = r;
      behind = behind;
      parted = rest;
      place = refl;
      is_bad = bad;
      holds = holds;
      held = All-tail IsHeld b bs held;
    })

pub split : (p : ℕ) (row : Row) (rows : List Row) (at : ℕ) → IsConfirmedAt p (row ∷ rows) at → IsSplit p row rows at
split p row rows at is =
    by_before p row rows at is.before is.row is.behind is.parted is.place is.is_bad is.holds is.held

pub empty_before : (before : List Row) (r : Row) (behind : List Row) → [] ≡ before ++ r ∷ behind → ⊥
empty_before [] r behind is = cc
empty_before (b ∷ bs) r behind is = cc

pub later_too : (p : ℕ) (row : Row) (rows : List Row) (at : ℕ) → IsHeld row → IsConfirmedAt p rows at
    → IsConfirmedAt p (row ∷ rows) (suc at)
later_too p row rows at holds is = record {
  before = row ∷ is.before;
  row = is.row;
  behind = is.behind;
  parted = ap (λ (rs : List Row). row ∷ rs) is.parted;
  place = ap suc is.place;
  is_bad = is.is_bad;
  holds = is.holds;
  held = All-cons IsHeld row is.before holds is.held;
}

-- what was found in rows that begin at a step
abbrev IsFoundFrom : ℕ → List Row → Option Hit → Type 0
IsFoundFrom step rows None = (p at : ℕ) → ¬ IsConfirmedAt p rows at
IsFoundFrom step rows (Some f) = (at : ℕ) × (f.step ≡ step + at) × IsFirstConfirmed f.property rows at

-- one more row in front
broken : (row : Row) (rows : List Row) → ¬ IsHeld row → (p at : ℕ) → ¬ IsConfirmedAt p (row ∷ rows) at
broken row rows breaks p at is = elim (split p row rows at is) [
  | here place bad holds ↦ breaks holds
  | later k place holds on ↦ breaks holds
]

none_more : (row : Row) (rows : List Row) → ((i : ℕ) → get_or row.bad i Zero ≢ One)
    → ((p at : ℕ) → ¬ IsConfirmedAt p rows at) → (p at : ℕ) → ¬ IsConfirmedAt p (row ∷ rows) at
none_more row rows fine none p at is = elim (split p row rows at is) [
  | here place bad holds ↦ fine p bad
  | later k place holds on ↦ none p k on
]

first_more : (row : Row) (rows : List Row) (p at : ℕ) → IsHeld row → ((i : ℕ) → get_or row.bad i Zero ≢ One)
    → IsFirstConfirmed p rows at → IsFirstConfirmed p (row ∷ rows) (suc at)
first_more row rows p at holds fine is = record {
  confirmed = later_too p row rows at holds is.confirmed;
  first = λ earlier low on. elim (split p row rows earlier on) [
    | here place bad good ↦ fine p bad
    | later k place good there ↦ is.first k (omega (arith, place, low)) there
  ];
}

good_more : (step : ℕ) (row : Row) (rows : List Row) → IsHeld row → ((i : ℕ) → get_or row.bad i Zero ≢ One)
    → (later : Option Hit) → IsFoundFrom (suc step) rows later → IsFoundFrom step (row ∷ rows) later
good_more step row rows holds fine None is = none_more row rows fine is
good_more step row rows holds fine (Some f) is =
    (suc is.0, omega (arith, is.1), first_more row rows f.property is.0 holds fine is.2)

row_more : (step : ℕ) (row : Row) (rows : List Row) (ones : Bool) → are_ones row.constraints ≡ ones → (o : Option ℕ)
    → first_one 0 row.bad ≡ o → (o_later : Option Hit) → IsFoundFrom (suc step) rows o_later
    → IsFoundFrom step (row ∷ rows) (hit_by step (if ones then shown_bad o else Broken) o_later)
row_more step row rows false are o one o_later is = broken row rows (ones_not row.constraints are)
row_more step row rows true are None one o_later is =
    good_more step row rows (ones_are row.constraints are) (none_found row.bad 0 one) o_later is
row_more step row rows true are (Some p) one o_later is =
    let place = one_found row.bad 0 p one in
    let same : place.behind ≡ p = omega (arith, place.is) in
    let bad : IsBad p row = subst (λ (i : ℕ). get_or row.bad i Zero ≡ One) same place.one in
    let end : step ≡ step + 0 = omega arith in (
      0,
      end,
      record {
        confirmed = record {
          before = [];
          row = row;
          behind = rows;
          parted = refl;
          place = refl;
          is_bad = bad;
          holds = ones_are row.constraints are;
          held = All-nil IsHeld;
        };
        first = λ earlier low on. absurd (omega (arith, low));
      },
    )

all_found : (step : ℕ) (rows : List Row) → IsFoundFrom step rows (hit_from step rows)
all_found step [] = λ p at is. empty_before is.before is.row is.behind is.parted
all_found step (row ∷ rows) =
    row_more step row rows (are_ones row.constraints) refl (first_one 0 row.bad) refl (hit_from (suc step) rows)
    (all_found (suc step) rows)

from_first : (rows : List Row) (o : Option Hit) → IsFoundFrom 0 rows o → IsFoundIn rows o
from_first rows None is = is
from_first rows (Some f) is =
    let same : is.0 ≡ f.step = omega (arith, is.1) in
    subst (λ (n : ℕ). IsFirstConfirmed f.property rows n) same is.2

pub first_is_found : FirstIsFound
first_is_found rows = from_first rows (hit_from 0 rows) (all_found 0 rows)
