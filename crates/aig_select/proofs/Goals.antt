-- Justice properties and fairness constraints that stay have the values that they had.
use Rattle.std.proofs.Common.{◌≡◌, ◌∷◌, ◌++◌, ◌∙◌, ℕ, List, [], map, refl, sym, ap, ap₂, subst}
use Rattle.std.specs.List.{AllByRecursion, concat, flat_map}
use Rattle.aig_circuit.specs.declared.circuit.Circuit.{Circuit}
use Rattle.aig_circuit.specs.declared.value.Val.{Val}
use Rattle.aig_circuit.specs.Justice.{properties_of}
use Rattle.aig_circuit.specs.Wellformed.{IsWellFormed, literal_lists, operands}
use Rattle.aig_circuit.proofs.Checking.{back, each_of, front}
use Rattle.aig_core.proofs.Checking.Sections.{lists_are_justice}
use Rattle.aig_meaning.specs.Meaning.{IsStepAssignment, literal_value, next_literals}
use Rattle.aig_meaning.proofs.Related.{AreDefined, IsDefined, literals_agree}
use Rattle.aig_select.specs.Staying.{staying}
use Rattle.aig_select.specs.Chosen.{fairness_for}
use Rattle.aig_select.specs.Selection.{selected}
use Rattle.aig_select.specs.Shown.{inputs_left, state_left}
use Rattle.aig_select.specs.Laws.{SelectionKeepsGoals, values_of}
use Rattle.aig_select.proofs.Lists.{staying_map}
use Rattle.aig_select.proofs.Selected.{selected_well_formed}
use Rattle.aig_select.proofs.Traces.{step_left}

known_lists : (c : Circuit) → IsWellFormed c → AllByRecursion (AreDefined c) (literal_lists c)
known_lists c good =
    each_of (IsDefined c) (literal_lists c)
    (back (IsDefined c) (next_literals c) (concat (literal_lists c))
    (front (IsDefined c) (next_literals c ++ concat (literal_lists c)) (flat_map operands c.gates) good.known))

-- Two assignments of one step.
module _ (c : Circuit) (state given : List Val) (a b : ℕ → Val) (good : IsWellFormed c)
    (is_a : IsStepAssignment c state given a) (is_b : IsStepAssignment c state given b) where
  same_properties : (properties : List (List ℕ)) → AllByRecursion (AreDefined c) properties
      → values_of a properties ≡ values_of b properties
  same_properties [] known = refl
  same_properties (p ∷ properties) known =
      ap₂ (λ (v : List Val) (vs : List (List Val)). v ∷ vs)
      (literals_agree c state given a b good is_a is_b p known.0) (same_properties properties known.1)

pub selection_keeps_goals : SelectionKeepsGoals
selection_keeps_goals choice keeps c d state given a b good is is_a is_b =
    let e : Circuit = selected choice keeps c in
    let good_too : IsWellFormed e = selected_well_formed choice keeps c good is.cone in
    let left : List Val = state_left keeps c state in
    let given_left : List Val = inputs_left keeps c given in
    let in_b : IsStepAssignment e left given_left b =
    subst (λ (x : Circuit). IsStepAssignment x left given_left b) is.same is_b in
    let in_a : IsStepAssignment e left given_left a = step_left choice keeps c state given a is_a in
    let lists = known_lists e good_too in
    let properties : List (List ℕ) = staying choice.justice (properties_of c.justice) in
    let they_are : properties_of d.justice ≡ properties =
    ap (λ (x : Circuit). properties_of x.justice) is.same ∙ (lists_are_justice properties).0 in (
      ap (values_of b) they_are
          ∙ same_properties e left given_left b a good_too in_b in_a properties
          (each_of (IsDefined e) properties lists.1.1.1.0)
          ∙ staying_map (map (literal_value a)) choice.justice (properties_of c.justice),
      subst (λ (x : Circuit). map (literal_value b) x.fairness ≡ map (literal_value a) x.fairness) (sym is.same)
          (literals_agree e left given_left b a good_too in_b in_a e.fairness lists.1.1.1.1.0)
          ∙ ap (λ (x : Circuit). map (literal_value a) x.fairness) is.same
          ∙ ap (λ (x : Circuit). map (literal_value a) (fairness_for x.justice c.fairness)) (sym is.same),
    )
