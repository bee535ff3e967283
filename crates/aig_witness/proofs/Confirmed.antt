-- The first step that confirms a claim, row after row.
use Rattle.std.proofs.Common.{◌≡◌, ◌<◌, ◌&&◌, ◌⊎◌, ◌∷◌, ◌++◌, ◌∙◌, if◌then◌else◌, rules, ℕ, List, [], Bool, true, false}
use Rattle.std.proofs.Common.{length, Option, Some, None, is_none, refl, sym, ap, ap₂, subst, append_assoc, arith, inl}
use Rattle.std.proofs.Common.{inr, All}
use Rattle.std.specs.List.{AllByRecursion}
use Rattle.std.proofs.lemmas.List.{length_push}
use Rattle.std.proofs.lemmas.List.Elements.{All-from_recursion, All-push, recursion_from_All}
use Rattle.aig_meaning.specs.Meaning.{Row}
use Rattle.aig_witness.specs.declared.search.StepSearch.{StepSearch}
use Rattle.aig_witness.specs.Witness.{IsHeld, IsBad, IsConfirmedAt, IsFirstConfirmed, IsVerdictOf}
use Rattle.aig_witness.specs.Parts.Witnessing.{IsUnbegun, TellsRows, looked, verdict_of}

parts_by_recursion : {X : Type 0} (P : X → Type 0) (xs : List X) (x : X) → AllByRecursion P (xs ++ x ∷ [])
    → AllByRecursion P xs × P x
parts_by_recursion P [] x all = (tt, all.0)
parts_by_recursion P (y ∷ ys) x all = let rest = parts_by_recursion P ys x all.1 in ((all.0, rest.0), rest.1)

-- what holds of each holds of those before the last, and of that
all_parts : {X : Type 0} (P : X → Type 0) (xs : List X) (x : X) → All P (xs ++ x ∷ []) → All P xs × P x
all_parts P xs x all =
    let parts = parts_by_recursion P xs x (recursion_from_All P (xs ++ x ∷ []) all) in
    (All-from_recursion P xs parts.0, parts.1)

-- where a list is parted at an item, that is the last one, or it stands before that
abbrev IsParted : {X : Type 0} → List X → X → List X → X → Type 0
IsParted {X} xs last before x = ((behind : List X) × (xs ≡ before ++ x ∷ behind)) ⊎ ((xs ≡ before) × (last ≡ x))

under : {X : Type 0} (y b : X) (xs before : List X) (last x : X) → y ≡ b → IsParted xs last before x
    → IsParted (y ∷ xs) last (b ∷ before) x
under y b xs before last x same (inl (behind, is)) = inl (behind, ap₂ (λ z zs. z ∷ zs) same is)
under y b xs before last x same (inr (is, at_last)) = inr (ap₂ (λ z zs. z ∷ zs) same is, at_last)

parted_at : {X : Type 0} (xs : List X) (last : X) (before : List X) (x : X) (behind : List X)
    → xs ++ last ∷ [] ≡ before ++ x ∷ behind → IsParted xs last before x
parted_at [] last [] x behind is = inr (refl, cc)
parted_at [] last (b ∷ []) x behind is = cc
parted_at [] last (b ∷ c ∷ bs) x behind is = cc
parted_at (y ∷ ys) last [] x behind is = let same : y ≡ x = cc in inl (ys, ap (λ z. z ∷ ys) same)
parted_at (y ∷ ys) last (b ∷ bs) x behind is =
    let same : y ≡ b = cc in
    let rest : ys ++ last ∷ [] ≡ bs ++ x ∷ behind = cc in
    under y b ys bs last x same (parted_at ys last bs x behind rest)

-- a step that confirms still does when there are more rows
confirmed_more : (p : ℕ) (rows : List Row) (row : Row) (at : ℕ) → IsConfirmedAt p rows at
    → IsConfirmedAt p (rows ++ row ∷ []) at
confirmed_more p rows row at is = search (rules, append_assoc)

-- the last row confirms
pub record IsLast (p : ℕ) (rows : List Row) (row : Row) (at : ℕ) : Type 0 where
  pub place : at ≡ length rows
  pub is_bad : IsBad p row
  pub held : All IsHeld (rows ++ row ∷ [])

-- a step that confirms did so before the last row came, or it is the last
confirmed_before : (p : ℕ) (rows : List Row) (row : Row) (at : ℕ) → IsConfirmedAt p (rows ++ row ∷ []) at
    → IsConfirmedAt p rows at ⊎ IsLast p rows row at
confirmed_before p rows row at is =
    elim (parted_at rows row is.before is.row is.behind is.parted) [
      | inl (behind, parted) ↦ inl (record {
        before = is.before;
        row = is.row;
        behind = behind;
        parted = parted;
        place = is.place;
        is_bad = is.is_bad;
        holds = is.holds;
        held = is.held;
      })
      | inr (same, at_last) ↦ inr (record {
        place = is.place ∙ ap length (sym same);
        is_bad = subst (IsBad p) (sym at_last) is.is_bad;
        held = All-push IsHeld rows row (subst (All IsHeld) (sym same) is.held)
            (subst IsHeld (sym at_last) is.holds);
      })
    ]

length_more : {X : Type 0} (xs : List X) (x : X) (ys : List X) → length xs < length (xs ++ x ∷ ys)
length_more [] x ys = omega arith
length_more (y ∷ xs) x ys = omega (arith, length_more xs x ys)

place_low : (p : ℕ) (rows : List Row) (at : ℕ) → IsConfirmedAt p rows at → at < length rows
place_low p rows at is =
    omega (arith, is.place, ap length is.parted, length_more is.before is.row is.behind)

-- the search, with its fields one by one
module _ (p : ℕ) (rows : List Row) (row : Row) (steps : ℕ) (counted : steps ≡ length rows) where
  abbrev more : List Row
  more = rows ++ row ∷ []

  found_stays : (at : ℕ) → IsFirstConfirmed p rows at → IsFirstConfirmed p more at
  found_stays at is = record {
    confirmed = confirmed_more p rows row at is.confirmed;
    first = λ earlier low here.
        elim (confirmed_before p rows row earlier here) [
          | inl before ↦ is.first earlier low before
          | inr last ↦ absurd (omega (arith, last.place, low, place_low p rows at is.confirmed))
        ];
  }

  found_here : ((at : ℕ) → ¬ IsConfirmedAt p rows at) → All IsHeld more → IsBad p row → IsFirstConfirmed p more steps
  found_here none held is_bad =
      let parts = all_parts IsHeld rows row held in
      record {
        confirmed = record {
          before = rows;
          row = row;
          behind = [];
          parted = refl;
          place = counted;
          is_bad = is_bad;
          holds = parts.1;
          held = parts.0;
        };
        first = λ earlier low here.
            elim (confirmed_before p rows row earlier here) [
              | inl before ↦ none earlier before
              | inr last ↦ absurd (omega (arith, last.place, low, counted))
            ];
      }

  not_here : ((at : ℕ) → ¬ IsConfirmedAt p rows at) → ¬ (All IsHeld more × IsBad p row)
      → (at : ℕ) → ¬ IsConfirmedAt p more at
  not_here none fails at here =
      elim (confirmed_before p rows row at here) [
        | inl before ↦ none at before
        | inr last ↦ fails (last.held, last.is_bad)
      ]

  abbrev next_found : Option ℕ → Bool → Bool → Option ℕ
  next_found found holds is_bad = if (is_none found && holds) && is_bad then Some steps else found

  told : (found : Option ℕ) (holds is_bad : Bool) → IsVerdictOf p rows (verdict_of found)
      → (holds ≡ true → All IsHeld more)
      → (holds ≡ false → ¬ All IsHeld more) → (is_bad ≡ true → IsBad p row) → (is_bad ≡ false → ¬ IsBad p row)
      → IsVerdictOf p more (verdict_of (next_found found holds is_bad))
  told (Some at) holds is_bad before held broken bad fine = found_stays at before
  told None false is_bad before held broken bad fine = not_here before (λ both. broken refl both.0)
  told None true false before held broken bad fine = not_here before (λ both. fine refl both.1)
  told None true true before held broken bad fine = found_here before (held refl) (bad refl)

  both_held : (a b : Bool) → (a ≡ true → All IsHeld rows) → (b ≡ true → IsHeld row) → (a && b) ≡ true → All IsHeld more
  both_held true b held holds is = All-push IsHeld rows row (held refl) (holds is)
  both_held false b held holds is = cc

  one_broken : (a b : Bool) → (a ≡ false → ¬ All IsHeld rows) → (b ≡ false → ¬ IsHeld row) → (a && b) ≡ false
      → ¬ All IsHeld more
  one_broken true b broken breaks is all = breaks is (all_parts IsHeld rows row all).1
  one_broken false b broken breaks is all = broken refl (all_parts IsHeld rows row all).0

-- nothing was looked at
pub tells_nothing : (p : ℕ) (s : StepSearch) → IsUnbegun s → TellsRows p [] s
tells_nothing p s unbegun = record {
  steps = unbegun.steps;
  held = λ _. All-from_recursion IsHeld [] tt;
  broken = λ (is : s.holds ≡ false). let holds = unbegun.holds in cc;
  found = subst (λ (o : Option ℕ). IsVerdictOf p [] (verdict_of o)) (sym unbegun.found)
      (λ at here. absurd (omega (arith, place_low p [] at here)));
}

-- one more step was looked at
pub tells_more : (p : ℕ) (rows : List Row) (row : Row) (s : StepSearch) (is_bad hold : Bool) → TellsRows p rows s
    → (is_bad ≡ true → IsBad p row) → (is_bad ≡ false → ¬ IsBad p row) → (hold ≡ true → IsHeld row)
    → (hold ≡ false → ¬ IsHeld row) → TellsRows p (rows ++ row ∷ []) (looked s is_bad hold)
tells_more p rows row s is_bad hold before bad fine holds breaks =
    search (rules, both_held, one_broken, length_push, told)
