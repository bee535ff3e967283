-- Variables that are added to those that are found, each once.
use Rattle.std.proofs.Common.{◌≡◌, ◌≢◌, ◌<◌, ◌≤◌, ◌∷◌, ◌++◌, ◌∙◌, ◌⊎◌, ◌||◌, ◌==◌, ℕ, List, [], Bool, true, false, not}
use Rattle.std.proofs.Common.{refl, sym, ap, subst, inl, inr, ⊎_elim, arith, cond, eqb, length, get_or, true≢false}
use Rattle.std.specs.List.{list_any}
use Rattle.std.specs.Ordering.{nat_cmp}
use Rattle.std.specs.FinSet.{FinSet, contains, contains-insert, insert}
use Rattle.std.specs.Cmp.{unsigned_tied}
use Rattle.std.proofs.lemmas.Cmp.{nat_cmp_total, nat_eq_equiv}
use Rattle.std.proofs.lemmas.Bool.Decides.{eqb_tells}
use Rattle.std.proofs.lemmas.Grind.{common_steps}
use Rattle.std.proofs.Common.{length-append}
use Rattle.std.proofs.lemmas.List.{get_or_append_left}
use Rattle.std.proofs.lemmas.List.Folds.{list_any-append}
use Rattle.std.proofs.lemmas.Map.Made.{length-le_from_is_member}
use Rattle.aig_circuit.specs.Wellformed.{AreDistinct, IsAmong}
use Rattle.aig_circuit.proofs.Checking.{among_decides, among_from_test, distinct_by_test}
use Rattle.aig_cone.proofs.Lists.{among_first, among_last, distinct_more, in_longer}
use Rattle.aig_cone.specs.Parts.Search.{with_all, with_one}

-- what holds where the variable is there, and where it is added, holds
by_cases : (P : List ℕ → Type 0) (found : List ℕ) (v : ℕ) → (IsAmong v found → P found)
    → (¬ IsAmong v found → P (found ++ v ∷ [])) → P (with_one found v)
by_cases P found v there added =
    elim (list_any (λ w. w == v) found) as (λ b. list_any (λ w. w == v) found ≡ b
    → P (cond b found (found ++ v ∷ []))) [
      | true ↦ λ e. there ((among_decides v found).0 e)
      | false ↦ λ e. added (λ a. true≢false (sym ((among_decides v found).1 a) ∙ e))
    ] refl

one_here : (found : List ℕ) (v : ℕ) → IsAmong v (with_one found v)
one_here found v =
    by_cases (λ (xs : List ℕ). IsAmong v xs) found v (λ there. there) (λ _. among_last found (v ∷ []) v (inl refl))

one_kept : (found : List ℕ) (v w : ℕ) → IsAmong w found → IsAmong w (with_one found v)
one_kept found v w among =
    by_cases (λ (xs : List ℕ). IsAmong w xs) found v (λ _. among) (λ _. among_first w found (v ∷ []) among)

one_from : (found : List ℕ) (v w : ℕ) → IsAmong w (with_one found v) → IsAmong w found ⊎ (w ≡ v)
one_from found v w =
    by_cases (λ (xs : List ℕ). IsAmong w xs → IsAmong w found ⊎ (w ≡ v)) found v (λ _ a. inl a)
    (λ _ a. in_longer found v w a)

one_apart : (found : List ℕ) (v : ℕ) → AreDistinct found → AreDistinct (with_one found v)
one_apart found v apart =
    by_cases (λ (xs : List ℕ). AreDistinct xs) found v (λ _. apart) (λ new. distinct_more found v apart new)

one_longer : (found : List ℕ) (v : ℕ) → length found ≤ length (with_one found v)
one_longer found v =
    by_cases (λ (xs : List ℕ). length found ≤ length xs) found v (λ _. omega arith)
    (λ _. omega (arith, length-append found (v ∷ [])))

one_read : (found : List ℕ) (v k : ℕ) → k < length found → get_or (with_one found v) k 0 ≡ get_or found k 0
one_read found v k below =
    by_cases (λ (xs : List ℕ). get_or xs k 0 ≡ get_or found k 0) found v (λ _. refl)
    (λ _. get_or_append_left found (v ∷ []) 0 k below)

pub all_kept : (found vs : List ℕ) (w : ℕ) → IsAmong w found → IsAmong w (with_all found vs)
all_kept found [] w among = among
all_kept found (v ∷ vs) w among = all_kept (with_one found v) vs w (one_kept found v w among)

pub all_here : (found vs : List ℕ) (w : ℕ) → IsAmong w vs → IsAmong w (with_all found vs)
all_here found [] w among = absurd among
all_here found (v ∷ vs) w among = ⊎_elim
    (λ (e : w ≡ v). all_kept (with_one found v) vs w
    (subst (λ (u : ℕ). IsAmong u (with_one found v)) (sym e) (one_here found v)))
    (λ (a : IsAmong w vs). all_here (with_one found v) vs w a)
    among

pub all_from : (found vs : List ℕ) (w : ℕ) → IsAmong w (with_all found vs) → IsAmong w found ⊎ IsAmong w vs
all_from found [] w among = inl among
all_from found (v ∷ vs) w among = ⊎_elim
    (λ (a : IsAmong w (with_one found v)). ⊎_elim
    (λ (b : IsAmong w found). inl b)
    (λ (e : w ≡ v). inr (inl e))
    (one_from found v w a))
    (λ (a : IsAmong w vs). inr (inr a))
    (all_from (with_one found v) vs w among)

pub all_apart : (found vs : List ℕ) → AreDistinct found → AreDistinct (with_all found vs)
all_apart found [] apart = apart
all_apart found (v ∷ vs) apart = all_apart (with_one found v) vs (one_apart found v apart)

pub all_longer : (found vs : List ℕ) → length found ≤ length (with_all found vs)
all_longer found [] = omega arith
all_longer found (v ∷ vs) = omega (arith, one_longer found v, all_longer (with_one found v) vs)

pub all_read : (found vs : List ℕ) (k : ℕ) → k < length found → get_or (with_all found vs) k 0 ≡ get_or found k 0
all_read found [] k below = refl
all_read found (v ∷ vs) k below =
    let still : k < length (with_one found v) = omega (arith, one_longer found v) in
    all_read (with_one found v) vs k still ∙ one_read found v k below

-- one more at the end
pub all_more : (found vs : List ℕ) (v : ℕ) → with_all found (vs ++ v ∷ []) ≡ with_one (with_all found vs) v
all_more found [] v = refl
all_more found (w ∷ vs) v = all_more (with_one found w) vs v

-- a test finds what stands in a list
test_from_among : (x : ℕ) (xs : List ℕ) → IsAmong x xs → list_any (eqb x) xs ≡ true
test_from_among x [] a = absurd a
test_from_among x (y ∷ ys) a = grind (arith, common_steps, test_from_among x ys)

-- distinct numbers that are all among others are no more than these
pub no_more : (xs ys : List ℕ) → AreDistinct xs → ((v : ℕ) → IsAmong v xs → IsAmong v ys) → length xs ≤ length ys
no_more xs ys apart within =
    length-le_from_is_member nat_eq_equiv xs ys (distinct_by_test xs apart)
    (λ q h. test_from_among q ys (within q (among_from_test q xs h)))

-- the marks of what is found and one variable more
inserted : (marks : FinSet nat_cmp) (v w : ℕ) → contains (insert marks v) w ≡ (eqb w v || contains marks w)
inserted marks v w =
    contains-insert nat_cmp_total marks v w ∙ ap (λ b. b || contains marks w) (unsigned_tied w v)

either_way : (a b d : Bool) → d ≡ a → (a || b) ≡ (b || (d || false))
either_way true true d e = refl
either_way true false d e = cc
either_way false true d e = refl
either_way false false d e = cc

eqb_comm : (a b : ℕ) → eqb a b ≡ eqb b a
eqb_comm a b = grind arith

pub marked_added : (marks : FinSet nat_cmp) (found : List ℕ) (v w : ℕ)
    → contains marks w ≡ list_any (λ u. u == w) found
    → contains (insert marks v) w ≡ list_any (λ u. u == w) (found ++ v ∷ [])
marked_added marks found v w same =
    inserted marks v w ∙ ap (λ b. eqb w v || b) same
    ∙ either_way (eqb w v) (list_any (λ u. u == w) found) (eqb v w) (eqb_comm v w)
    ∙ sym (list_any-append (λ u. u == w) found (v ∷ []))

pub marked_there : (marks : FinSet nat_cmp) (found : List ℕ) (v w : ℕ) (new : Bool) → new ≡ false
    → new ≡ not (contains marks v) → contains marks w ≡ list_any (λ u. u == w) found
    → contains (insert marks v) w ≡ list_any (λ u. u == w) found
marked_there marks found v w new is added same = ⊎_elim
    (λ (t : (eqb w v ≡ true) × (w ≡ v)).
    let there : contains marks v ≡ true = not_not (contains marks v) (sym added ∙ is) in
    inserted marks v w ∙ ap (λ b. b || contains marks w) t.0 ∙ sym (ap (contains marks) t.1 ∙ there) ∙ same)
    (λ (f : (eqb w v ≡ false) × (w ≢ v)). inserted marks v w ∙ ap (λ b. b || contains marks w) f.0 ∙ same)
    (eqb_tells w v) where
      not_not : (b : Bool) → not b ≡ false → b ≡ true
      not_not true e = refl
      not_not false e = sym e
