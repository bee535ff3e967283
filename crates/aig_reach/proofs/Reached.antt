-- A bad state that is 1 among those side by side was reached.
use Rattle.std.proofs.Common.{◌≡◌, ◌<◌, ◌++◌, ◌||◌, ℕ, suc, List, [], ◌∷◌, Bool, true, false, length}
use Rattle.std.proofs.Common.{map}
use Rattle.std.proofs.Common.{append_assoc, ap, arith, get_or, inl, inr, ◌⊎◌, ⊎_elim, refl, subst}
use Rattle.std.specs.List.{All, list_any}
use Rattle.std.proofs.lemmas.List.Elements.{All-cons, All-nil, All-push}
use Rattle.aig_circuit.specs.declared.value.Val.{Val}
use Rattle.aig_circuit.specs.declared.value.Val.TheVariants.{Zero, One, X}
use Rattle.aig_circuit.specs.Values.{value_and}
use Rattle.aig_meaning.specs.Meaning.{Row}
use Rattle.aig_cnf.proofs.Existing.{is_one}
use Rattle.aig_witness.specs.Witness.{IsHeld, IsConfirmedAt}
use Rattle.aig_unroll.specs.SideBySide.{and_all, bad_side_by_side}

one_of : (v : Val) → is_one v ≡ true → v ≡ One
one_of Zero is = cc
one_of One is = refl
one_of X is = cc

-- an `and` is 1 where both are
and_one : (v w : Val) → is_one (value_and v w) ≡ true → (v ≡ One) × (w ≡ One)
and_one Zero w is = cc
and_one One w is = (refl, one_of w is)
and_one X Zero is = cc
and_one X One is = cc
and_one X X is = cc

or_cases : (b c : Bool) → (b || c) ≡ true → (b ≡ true) ⊎ (c ≡ true)
or_cases true c is = inl refl
or_cases false c is = inr is

or_left : (b c : Bool) → b ≡ true → (b || c) ≡ true
or_left b c is = ap (λ t. t || c) is

or_right : (b c : Bool) → c ≡ true → (b || c) ≡ true
or_right true c is = refl
or_right false c is = is

any_joined : {X : Type 0} (p : X → Bool) (xs ys : List X) → list_any p (xs ++ ys) ≡ true
    → (list_any p xs ≡ true) ⊎ (list_any p ys ≡ true)
any_joined p [] ys is = inr is
any_joined p (x ∷ xs) ys is =
    ⊎_elim (λ (here : p x ≡ true). inl (or_left (p x) (list_any p xs) here))
    (λ (later : list_any p (xs ++ ys) ≡ true).
    ⊎_elim (λ (front : list_any p xs ≡ true). inl (or_right (p x) (list_any p xs) front))
    (λ (back : list_any p ys ≡ true). inr back) (any_joined p xs ys later))
    (or_cases (p x) (list_any p (xs ++ ys)) is)

-- a place of a 1, in values before they were joined to another one
pub record IsPlaced (held : Val) (vs : List Val) : Type 0 where
  pub held_is : held ≡ One
  pub place : ℕ
  pub below : place < length vs
  pub one : get_or vs place Zero ≡ One

one_place : (held : Val) (vs : List Val) → list_any is_one (map (value_and held) vs) ≡ true → IsPlaced held vs
one_place held [] is = cc
one_place held (v ∷ vs) is =
    ⊎_elim (λ (here : is_one (value_and held v) ≡ true).
    let both = and_one held v here in
    let found : IsPlaced held (v ∷ vs) = record { held_is = both.0; place = 0; below = omega arith; one = both.1 } in
    found)
    (λ (later : list_any is_one (map (value_and held) vs) ≡ true).
    let rest = one_place held vs later in
    let found : IsPlaced held (v ∷ vs) =
    record { held_is = rest.held_is; place = suc rest.place; below = omega (arith, rest.below); one = rest.one } in
    found) (or_cases (is_one (value_and held v)) (list_any is_one (map (value_and held) vs)) is)

-- where the `and` of all is 1, each is
all_held : (held : Val) (vs : List Val) → and_all held vs ≡ One → (held ≡ One) × All (λ (v : Val). v ≡ One) vs
all_held held [] is = (is, All-nil (λ (v : Val). v ≡ One))
all_held held (v ∷ vs) is =
    let rest = all_held (value_and held v) vs is in
    let both = and_one held v (ap is_one rest.0) in
    (both.0, All-cons (λ (v : Val). v ≡ One) v vs both.1 rest.1)

-- where a bad state is 1 in later rows, what was held before them is
still_held : (held : Val) (rows : List Row) → list_any is_one (bad_side_by_side held rows) ≡ true → held ≡ One
still_held held [] is = cc
still_held held (row ∷ rows) is =
    let chain = and_all held row.constraints in
    (all_held held row.constraints (
    ⊎_elim (λ (here : list_any is_one (map (value_and chain) row.bad) ≡ true). (one_place chain row.bad here).held_is)
    (λ (later : list_any is_one (bad_side_by_side chain rows) ≡ true). still_held chain rows later)
    (any_joined is_one (map (value_and chain) row.bad) (bad_side_by_side chain rows) is))).0

-- what a bad state among those of the rows confirms
abbrev pub IsReached : List Row → Type 0
IsReached rows = (property : ℕ) × ((step : ℕ) × IsConfirmedAt property rows step)

pub reached : (before rows : List Row) → All IsHeld before → list_any is_one (bad_side_by_side One rows) ≡ true
    → IsReached (before ++ rows)
reached before [] held is = cc
reached before (row ∷ rows) held is =
    let chain = and_all One row.constraints in
    let bad = map (value_and chain) row.bad in
    let later = bad_side_by_side chain rows in
    let cases = any_joined is_one bad later is in
    let still : chain ≡ One =
    ⊎_elim (λ (here : list_any is_one bad ≡ true). (one_place chain row.bad here).held_is)
    (λ (there : list_any is_one later ≡ true). still_held chain rows there) cases in
    let holds : IsHeld row = (all_held One row.constraints still).1 in
    ⊎_elim (λ (here : list_any is_one bad ≡ true).
    let placed = one_place chain row.bad here in
    let found : IsReached (before ++ row ∷ rows) = (
      placed.place,
      (
        length before,
        record {
          before = before;
          row = row;
          behind = rows;
          parted = refl;
          place = refl;
          is_bad = placed.one;
          holds = holds;
          held = held;
        },
      ),
    ) in found)
    (λ (there : list_any is_one later ≡ true).
    let on : list_any is_one (bad_side_by_side One rows) ≡ true =
    subst (λ (h : Val). list_any is_one (bad_side_by_side h rows) ≡ true) still there in
    subst IsReached (append_assoc before (row ∷ []) rows)
    (reached (before ++ row ∷ []) rows (All-push IsHeld before row held holds) on)) cases
