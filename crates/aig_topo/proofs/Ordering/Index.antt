-- The index of gates: which variables they define, and whether two of them define one.
use Rattle.std.proofs.Common.{◌≡◌, ◌↔◌, ◌<◌, ◌+◌, ◌∷◌, ◌++◌, ◌∙◌, ◌==◌, ◌&&◌, ◌≢◌, ℕ, List, [], Bool, true, false, not}
use Rattle.std.proofs.Common.{refl, sym, ap, subst, inl, inr, ⊎_elim, arith, eqb, length, take, get_or}
use Rattle.std.specs.List.{list_any}
use Rattle.std.specs.Option.{is_some}
use Rattle.std.specs.Ordering.{nat_cmp}
use Rattle.std.specs.FinMap.{FinMap, get, contains_key}
use Rattle.std.proofs.lemmas.Grind.{common_steps}
use Rattle.std.proofs.lemmas.List.{take_more, map-append}
use Rattle.std.proofs.lemmas.Bool.Decides.{eqb_tells}
use Rattle.aig_circuit.specs.declared.circuit.Gate.{Gate}
use Rattle.aig_circuit.specs.Wellformed.{IsAmong, AreDistinct}
use Rattle.aig_topo.specs.Order.{gate_of}
use Rattle.aig_topo.proofs.Ordering.Counted.{among_first, distinct_more}
use Rattle.aig_topo.proofs.Ordering.Ranked.{variables}
use Rattle.aig_topo.proofs.Ordering.Cyclic.{among_last}

-- a gate defines the variable exactly where it is among those that gates define
pub some_defines : (gates : List Gate) (v : ℕ) → is_some (gate_of gates v) ≡ list_any (λ (g : Gate). g.var == v) gates
some_defines [] v = refl
some_defines (g ∷ gs) v = grind (arith, common_steps, some_defines gs v)

among_defined : (gates : List Gate) (v : ℕ) → list_any (λ (g : Gate). g.var == v) gates ≡ true
    → IsAmong v (variables gates)
among_defined [] v h = cc
among_defined (g ∷ gs) v h =
    ⊎_elim (λ (t : (eqb g.var v ≡ true) × (g.var ≡ v)). inl (sym t.1))
    (λ (f : (eqb g.var v ≡ false) × (g.var ≢ v)). inr (among_defined gs v (rw f.0 at h)))
    (eqb_tells g.var v)

defined_among : (gates : List Gate) (v : ℕ) → IsAmong v (variables gates)
    → list_any (λ (g : Gate). g.var == v) gates ≡ true
defined_among [] v a = absurd a
defined_among (g ∷ gs) v a =
    ⊎_elim (λ (t : (eqb g.var v ≡ true) × (g.var ≡ v)). rw t.0 refl)
    (λ (f : (eqb g.var v ≡ false) × (g.var ≢ v)). rw f.0
    (defined_among gs v (⊎_elim (λ (e : v ≡ g.var). absurd (f.1 (sym e))) (λ (r : IsAmong v (variables gs)). r) a)))
    (eqb_tells g.var v)

pub defined_exactly : (gates : List Gate) (v : ℕ) → (is_some (gate_of gates v) ≡ true) ↔ IsAmong v (variables gates)
defined_exactly gates v = (
  λ e. among_defined gates v (sym (some_defines gates v) ∙ e),
  λ a. some_defines gates v ∙ defined_among gates v a,
)

distinct_apart : (xs : List ℕ) (y : ℕ) → AreDistinct (xs ++ y ∷ []) → AreDistinct xs × (¬ IsAmong y xs)
distinct_apart [] y d = (tt, λ a. a)
distinct_apart (x ∷ xs) y d =
    let rest : AreDistinct xs × (¬ IsAmong y xs) = distinct_apart xs y d.1 in (
      (λ (a : IsAmong x xs). d.0 (among_first x xs (y ∷ []) a), rest.0),
      λ a. ⊎_elim (λ (e : y ≡ x). d.0 (among_last xs (y ∷ []) x (inl (sym e)))) rest.1 a,
    )

one_more : (xs : List ℕ) (v : ℕ) (b has : Bool) → (b ≡ true) ↔ AreDistinct xs → (has ≡ true) ↔ IsAmong v xs
    → ((b && not has) ≡ true) ↔ AreDistinct (xs ++ v ∷ [])
one_more xs v true true once among =
    (λ (e : false ≡ true). cc, λ d. absurd ((distinct_apart xs v d).1 (among.0 refl)))
one_more xs v true false once among = (
  λ _. distinct_more xs v (once.0 refl) (λ a. let e : false ≡ true = among.1 a in cc),
  λ _. refl,
)
one_more xs v false has once among = (λ (e : false ≡ true). cc, λ d. once.1 (distinct_apart xs v d).0)

-- whether the first gates define each variable once, and one gate more, where a map has those of the first
pub once_more : (gates : List Gate) (i : ℕ) (g : Gate) (m : FinMap nat_cmp ℕ) (b added : Bool) → i < length gates
    → (b ≡ true) ↔ AreDistinct (variables (take i gates)) → ((v : ℕ) → get m v ≡ gate_of (take i gates) v)
    → added ≡ not (contains_key m (get_or gates i g).var)
    → ((b && added) ≡ true) ↔ AreDistinct (variables (take (i + 1) gates))
once_more gates i g m b added below once told new =
    let v = (get_or gates i g).var in
    let more : variables (take (i + 1) gates) ≡ variables (take i gates) ++ v ∷ [] =
    ap variables (take_more gates i g below)
    ∙ map-append (λ (h : Gate). h.var) (take i gates) (get_or gates i g ∷ []) in
    let has : added ≡ not (is_some (gate_of (take i gates) v)) = new ∙ ap (λ o. not (is_some o)) (told v) in
    subst (λ vs. ((b && added) ≡ true) ↔ AreDistinct vs) (sym more)
    (subst (λ a. ((b && a) ≡ true) ↔ AreDistinct (variables (take i gates) ++ v ∷ [])) (sym has)
    (one_more (variables (take i gates)) v b (is_some (gate_of (take i gates) v)) once
    (defined_exactly (take i gates) v)))
