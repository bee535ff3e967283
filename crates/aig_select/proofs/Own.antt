-- A circuit has one selection by a choice, which is its own cone.
use Rattle.std.proofs.Common.{◌≡◌, ◌∙◌, ℕ, List, Bool, true, false, refl, sym, ap, subst}
use Rattle.aig_circuit.specs.declared.circuit.Latch.{Latch}
use Rattle.aig_circuit.specs.declared.circuit.Gate.{Gate}
use Rattle.aig_circuit.specs.declared.circuit.Circuit.{Circuit}
use Rattle.aig_circuit.specs.Wellformed.{IsAmong, defined_variables}
use Rattle.aig_select.specs.declared.choice.Choice.{Choice}
use Rattle.aig_select.specs.Chosen.{chosen}
use Rattle.aig_cone.specs.Cone.{IsInCone}
use Rattle.aig_cone.specs.Cone.IsInCone.{root, operand, next}
use Rattle.aig_cone.specs.declared.search.Reach.TheVariants.{AllSteps}
use Rattle.aig_select.specs.Cone.{IsCone, shown_variables}
use Rattle.aig_select.specs.Selection.{selected}
use Rattle.aig_select.specs.Laws.{OneSelection, SelectionIsItsCone}
use Rattle.aig_select.proofs.Lists.{kept_contained}
use Rattle.aig_select.proofs.Coned.{defined_left, passing}

both_ways : (b b' : Bool) → (b ≡ true → b' ≡ true) → (b' ≡ true → b ≡ true) → b ≡ b'
both_ways true b' there back = sym (there refl)
both_ways false true there back = back refl
both_ways false false there back = refl

one_cone : (c : Circuit) (roots : List ℕ) (p q : ℕ → Bool) → IsCone c roots p → IsCone c roots q → p ≡ q
one_cone c roots p q is_p is_q =
    let same : (v : ℕ) → p v ≡ q v =
    λ v. both_ways (p v) (q v) (λ e. (is_q v).1 ((is_p v).0 e)) (λ e. (is_p v).1 ((is_q v).0 e)) in
    λ i v. same v i

pub one_selection : OneSelection
one_selection choice c d e (p, is) (q, is_too) =
    is.same ∙ ap (λ (keeps : ℕ → Bool). selected choice keeps c) (one_cone c
    (shown_variables (chosen choice c)) p q is.cone is_too.cone) ∙ sym is_too.same

module _ (choice : Choice) (keeps : ℕ → Bool) (c : Circuit)
    (cone : IsCone c (shown_variables (chosen choice c)) keeps) where
  abbrev d : Circuit
  d = selected choice keeps c

  in_own : (v : ℕ) → IsInCone AllSteps c (shown_variables d) v → IsInCone AllSteps d (shown_variables d) v
  in_own v (root a) = root a
  in_own v (operand {g} there before a) =
      operand (kept_contained (λ (h : Gate). keeps h.var) c.gates g ((cone g.var).1 before) there) (in_own g.var before) a
  in_own v (next {l} all there before is) =
      next all (kept_contained (λ (m : Latch). keeps m.var) c.latches l ((cone l.var).1 before) there) (in_own l.var before)
      is

  pub is_own_cone : (v : ℕ) → IsAmong v (defined_variables d) → IsInCone AllSteps d (shown_variables d) v
  is_own_cone v a =
      in_own v ((cone v).0 (passing keeps v (defined_variables (chosen choice c))
      (subst (IsAmong v) (defined_left keeps (chosen choice c)) a)))

pub selection_is_its_cone : SelectionIsItsCone
selection_is_its_cone choice c d (keeps, is) =
    subst (λ (e : Circuit). (v : ℕ) → IsAmong v (defined_variables e) → IsInCone AllSteps e (shown_variables e) v) (sym is.same)
    (is_own_cone choice keeps c is.cone)
