-- The selection of a well-formed circuit is well formed.
use Rattle.std.proofs.Common.{◌≡◌, ◌<◌, ◌∙◌, ◌==◌, ℕ, List, [], length, Bool, true, false, Option, None, Some, cond}
use Rattle.std.proofs.Common.{refl, sym, ap, subst, arith}
use Rattle.std.proofs.lemmas.List.{length-map}
use Rattle.aig_circuit.specs.declared.circuit.Latch.{Latch}
use Rattle.aig_circuit.specs.declared.circuit.Circuit.{Circuit}
use Rattle.aig_circuit.specs.declared.circuit.Kind.{Kind}
use Rattle.aig_circuit.specs.declared.circuit.Kind.TheVariants as kinds
use Rattle.aig_circuit.specs.Justice.{properties_of}
use Rattle.aig_circuit.specs.Wellformed.{IsWellFormed, count_of}
use Rattle.aig_select.specs.declared.choice.Choice.{Choice}
use Rattle.aig_select.specs.Staying.{new_place, staying}
use Rattle.aig_select.specs.Chosen.{chosen}
use Rattle.aig_cone.specs.Cone.{IsInCone}
use Rattle.aig_cone.specs.Cone.IsInCone.{root, operand, next}
use Rattle.aig_cone.specs.declared.search.Reach.TheVariants.{AllSteps}
use Rattle.aig_select.specs.Cone.{IsCone, shown_variables, with_only}
use Rattle.aig_select.specs.Selection.{input_marks, latch_marks, selected, selected_place}
use Rattle.aig_select.specs.Laws.{SelectionIsWellFormed}
use Rattle.aig_select.proofs.Lists.{filter_is}
use Rattle.aig_select.proofs.Places.{none_is_some, place_apart, place_below, some_is, symbols_stay}
use Rattle.aig_select.proofs.Chosen.{chosen_well_formed, count_properties}
use Rattle.aig_select.proofs.Coned.{coned_well_formed}

-- of marks for as many as a list has
below_of : {X : Type 0} (ms : List Bool) (xs : List X) (count p q : ℕ) → new_place ms p ≡ Some q → p < length xs
    → length (staying ms xs) ≡ count → q < count
below_of ms xs count p q e low same = omega (arith, place_below 0 ms xs p q e low)

-- of a list that stays or goes
below_if : (b : Bool) (xs : List ℕ) (p q : ℕ) → cond b None (Some p) ≡ Some q → p < length xs → q < length (cond b [] xs)
below_if true xs p q e low = none_is_some q e
below_if false xs p q e low = omega (arith, some_is p q e)

if_is : (b : Bool) (p q : ℕ) → cond b None (Some p) ≡ Some q → p ≡ q
if_is true p q e = none_is_some q e
if_is false p q e = some_is p q e

module _ (choice : Choice) (keeps : ℕ → Bool) (c : Circuit) where
  abbrev d : Circuit
  d = selected choice keeps c

  abbrev place : Kind → ℕ → Option ℕ
  place = selected_place choice keeps c

  below : (k : Kind) (p q : ℕ) → place k p ≡ Some q → p < count_of c k → q < count_of d k
  below kinds.Input p q e low =
      below_of (input_marks keeps c) c.inputs (length d.inputs) p q e low (ap (length {A = ℕ}) (sym (filter_is keeps c.inputs)))
  below kinds.Latch p q e low =
      below_of (latch_marks keeps c) c.latches (length d.latches) p q e low
      (ap (length {A = Latch}) (sym (filter_is (λ (l : Latch). keeps l.var) c.latches)))
  below kinds.Output p q e low = below_of choice.outputs c.outputs (length d.outputs) p q e low refl
  below kinds.Bad p q e low = below_of choice.bad c.bad (length d.bad) p q e low refl
  below kinds.Constraint p q e low = omega (arith, some_is p q e)
  below kinds.Justice p q e low =
      below_of choice.justice (properties_of c.justice) (length d.justice.sizes) p q e
      (omega (arith, low, count_properties c.justice.sizes c.justice.literals))
      (sym (length-map (staying choice.justice (properties_of c.justice)) (length {A = ℕ})))
  below kinds.Fairness p q e low = below_if (length d.justice.sizes == 0) c.fairness p q e low

  apart : (k : Kind) (p r q : ℕ) → place k p ≡ Some q → place k r ≡ Some q → p ≡ r
  apart kinds.Input p r q e f = place_apart 0 (input_marks keeps c) p r q e f
  apart kinds.Latch p r q e f = place_apart 0 (latch_marks keeps c) p r q e f
  apart kinds.Output p r q e f = place_apart 0 choice.outputs p r q e f
  apart kinds.Bad p r q e f = place_apart 0 choice.bad p r q e f
  apart kinds.Constraint p r q e f = some_is p q e ∙ sym (some_is r q f)
  apart kinds.Justice p r q e f = place_apart 0 choice.justice p r q e f
  apart kinds.Fairness p r q e f =
      if_is (length d.justice.sizes == 0) p q e ∙ sym (if_is (length d.justice.sizes == 0) r q f)

  -- the cone is that of what is chosen, whose latches and gates are the same
  chosen_there : (roots : List ℕ) (v : ℕ) → IsInCone AllSteps c roots v → IsInCone AllSteps (chosen choice c) roots v
  chosen_there roots v (root a) = root a
  chosen_there roots v (operand {g} there before a) = operand there (chosen_there roots g.var before) a
  chosen_there roots v (next {l} all there before is) = next all there (chosen_there roots l.var before) is

  chosen_back : (roots : List ℕ) (v : ℕ) → IsInCone AllSteps (chosen choice c) roots v → IsInCone AllSteps c roots v
  chosen_back roots v (root a) = root a
  chosen_back roots v (operand {g} there before a) = operand there (chosen_back roots g.var before) a
  chosen_back roots v (next {l} all there before is) = next all there (chosen_back roots l.var before) is

  pub selected_well_formed : IsWellFormed c → IsCone c (shown_variables (chosen choice c)) keeps → IsWellFormed d
  selected_well_formed good cone =
      let roots : List ℕ = shown_variables (chosen choice c) in
      let bare : IsWellFormed (with_only keeps (chosen choice c)) =
      coned_well_formed keeps (chosen choice c)
      (λ v. (λ kept. chosen_there roots v ((cone v).0 kept), λ there. (cone v).1 (chosen_back roots v there))) (chosen_well_formed choice c good)
      (record { positions = tt; apart = tt; lines = tt }) in
      record {
        limits = record {
          max_var = bare.limits.max_var;
          inputs = bare.limits.inputs;
          latches = bare.limits.latches;
          literals = bare.limits.literals;
          justice = bare.limits.justice;
          sizes = bare.limits.sizes;
          gates = bare.limits.gates;
        };
        in_range = bare.in_range;
        once = bare.once;
        known = bare.known;
        symbols = symbols_stay place c d below apart refl good.symbols;
        ranked = bare.ranked;
      }

pub selection_is_well_formed : SelectionIsWellFormed
selection_is_well_formed choice c d good (keeps, is) =
    subst IsWellFormed (sym is.same) (selected_well_formed choice keeps c good is.cone)
