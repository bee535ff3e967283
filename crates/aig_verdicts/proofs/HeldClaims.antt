-- A claim that is held, and what its run comes to.
use Rattle.std.proofs.Common.{◌≡◌, ◌∙◌, ℕ, List, Option, Some, IfSome, ap, ap₂, inl, inr, option_map, refl, subst, sym}
use Rattle.aig_circuit.specs.declared.circuit.Circuit.{Circuit}
use Rattle.aig_circuit.specs.declared.value.Val.{Val}
use Rattle.aig_fault.specs.declared.stopped.Stopped.{Stopped}
use Rattle.aig_fault.specs.declared.stopped.Stopped.TheVariants as stops
use Rattle.aig_lasso.proofs.Claims.{verdicts_are_on_claims}
use Rattle.aig_lasso.specs.Goaled.{ShowsNoGoals}
use Rattle.aig_lasso.specs.Goals.{with_goals}
use Rattle.aig_lasso.specs.Judging.{IsVerdictOn}
use Rattle.aig_lasso.specs.Lasso.{IsLassoVerdict}
use Rattle.aig_lasso.specs.Runs.{StartedRun, longer_by, run_from}
use Rattle.aig_lasso.specs.declared.verdict.LassoVerdict.{LassoVerdict}
use Rattle.aig_step.specs.Parts.Lines.{vector_in}
use Rattle.aig_verdicts.specs.Parts.Reading.{IsOfClaim, NotJudged}
use Rattle.aig_witness.specs.Witness.{Claim}

-- a run was begun
pub first_held : (o : Option (List Val)) (r : Option StartedRun) (inputs : ℕ) (first : List Val)
    → r ≡ option_map (run_from inputs) o → o ≡ Some first → IfSome r (λ run. run ≡ run_from inputs first)
first_held o r inputs first is said =
    subst (λ (x : Option StartedRun). IfSome x (λ run. run ≡ run_from inputs first))
    (sym (is ∙ ap (option_map (run_from inputs)) said)) refl

-- it goes on
pub step_held : (before after run : StartedRun) (text : List ℕ) (given other : List Val) → before ≡ run
    → vector_in before.inputs text ≡ Some other → after ≡ longer_by before other
    → vector_in run.inputs text ≡ Some given → after ≡ longer_by run given
step_held before after run text given other same said is says =
    let both : Some other ≡ Some given = sym said ∙ ap (λ (r : StartedRun). vector_in r.inputs text) same ∙ says in
    let one : other ≡ given = cc in
    is ∙ ap₂ longer_by same one

-- the verdict on it is one on the claim
pub verdict_held : (c goals : Circuit) (number : ℕ) (run : StartedRun) (v : LassoVerdict) → goals ≡ with_goals number c
    → IsVerdictOn goals run.first run.steps v → (claim : Claim) → IsOfClaim number claim run
    → IsLassoVerdict c claim v
verdict_held c goals number run v shown is claim of =
    let on_goals = subst (λ (g : Circuit). IsVerdictOn g run.first run.steps v)
    (shown ∙ ap (λ (n : ℕ). with_goals n c) (sym of.property)) is in
    let on_first = subst (λ (vs : List Val). IsVerdictOn (with_goals claim.property c) vs run.steps v) of.first
    on_goals in
    verdicts_are_on_claims c claim v
    (subst (λ (ss : List (List Val)). IsVerdictOn (with_goals claim.property c) claim.first ss v) of.steps on_first)

pub not_shown : (c : Circuit) (number : ℕ) (e : Stopped) → ShowsNoGoals number c e → NotJudged number c e
not_shown c number stops.OutOfMemory why = tt
not_shown c number (stops.Refused fault) (inl none) = inr none.1
not_shown c number (stops.Refused fault) (inr many) = inl many
not_shown c number stops.ReadFailed why = absurd why
not_shown c number stops.WriteFailed why = absurd why
