-- A run with 0 for each x: what was 1 is, and no x comes up.
use Rattle.std.proofs.Common.{◌≡◌, ◌∙◌, ℕ, zero, suc, List, [], ◌∷◌, get_or, length, map, subst, sym}
use Rattle.std.specs.List.{All, AllByRecursion, AllZip}
use Rattle.std.proofs.lemmas.List.{length-map}
use Rattle.std.proofs.lemmas.List.Elements.{All-cons, All-head, All-nil, All-tail}
use Rattle.aig_circuit.specs.declared.circuit.Circuit.{Circuit}
use Rattle.aig_circuit.specs.declared.value.Val.{Val}
use Rattle.aig_circuit.specs.declared.value.Val.TheVariants.{Zero, One}
use Rattle.aig_circuit.specs.Wellformed.{IsWellFormed}
use Rattle.aig_meaning.specs.Completion.{Stays}
use Rattle.aig_meaning.specs.Meaning.{IsStepAssignment, literal_value}
use Rattle.aig_meaning.proofs.Related.{AreDefined}
use Rattle.aig_cnf.specs.Clauses.{is_true}
use Rattle.aig_cnf.proofs.Existing.{IsSure, rounded, same_known, sure_truth}
use Rattle.aig_cnf.proofs.Truths.{truth_literal}
use Rattle.aig_reach.proofs.Setting.{all_stay, are_sure, sure}

abbrev pub IsOne : Val → Type 0
IsOne v = v ≡ One

pub ones_kept : (vs ws : List Val) → All IsOne vs → AllZip Stays vs ws → All IsOne ws
ones_kept [] [] ones stay = All-nil IsOne
ones_kept [] (w ∷ ws) ones stay = absurd stay
ones_kept (v ∷ vs) [] ones stay = absurd stay
ones_kept (v ∷ vs) (w ∷ ws) ones stay =
    All-cons IsOne w ws (subst (λ (x : Val). Stays x w) (All-head IsOne v vs ones) stay.0)
    (ones_kept vs ws (All-tail IsOne v vs ones) stay.1)

pub one_kept : (vs ws : List Val) (i : ℕ) → AllZip Stays vs ws → get_or vs i Zero ≡ One → get_or ws i Zero ≡ One
one_kept [] ws i stay is = cc
one_kept (v ∷ vs) [] i stay is = absurd stay
one_kept (v ∷ vs) (w ∷ ws) zero stay is = subst (λ (x : Val). Stays x w) is stay.0
one_kept (v ∷ vs) (w ∷ ws) (suc i) stay is = one_kept vs ws i stay.1 is

-- steps with 0 for each x
abbrev pub sure_steps : List (List Val) → List (List Val)
sure_steps vectors = map (map sure) vectors

pub steps_stay : (vectors : List (List Val)) → AllZip (AllZip Stays) vectors (sure_steps vectors)
steps_stay [] = tt
steps_stay (v ∷ vs) = (all_stay v, steps_stay vs)

pub steps_sure : (vectors : List (List Val)) → AllByRecursion (AllByRecursion IsSure) (sure_steps vectors)
steps_sure [] = tt
steps_sure (v ∷ vs) = (are_sure v, steps_sure vs)

pub steps_long : (inputs : ℕ) (vectors : List (List Val))
    → AllByRecursion (λ (v : List Val). length v ≡ inputs) vectors
    → AllByRecursion (λ (v : List Val). length v ≡ inputs) (sure_steps vectors)
steps_long inputs [] long = tt
steps_long inputs (v ∷ vs) long = (length-map v sure ∙ long.0, steps_long inputs vs long.1)

-- where there is no x in state and inputs, there is none anywhere
module _ (c : Circuit) (formed : IsWellFormed c) (state given : List Val) (b : ℕ → Val)
    (is : IsStepAssignment c state given b) (sure_state : AllByRecursion IsSure state)
    (sure_given : AllByRecursion IsSure given) where
  pub all_sure : (ls : List ℕ) → AreDefined c ls → AllByRecursion IsSure (map (literal_value b) ls)
  all_sure [] known = tt
  all_sure (l ∷ ls) known =
      let a = rounded c formed state given b is sure_state sure_given in (
        subst IsSure
            (sym (truth_literal a l) ∙ same_known c formed state given b is sure_state sure_given l known.0)
            (sure_truth (is_true a l)),
        all_sure ls known.1,
      )
