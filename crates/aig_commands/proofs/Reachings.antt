-- What is written for a solver's answer is one text, and it is confirmed.
use Rattle.std.proofs.Common.{◌≡◌, ◌∙◌, ℕ, List, ap, subst, sym}
use Rattle.aig_circuit.specs.declared.circuit.Circuit.{Circuit}
use Rattle.aig_verdicts.proofs.Plain.{bad_state_kept}
use Rattle.aig_witness.specs.Witness.{SaysClaim}
use Rattle.aig_replay.specs.Reached.{ReachedBy}
use Rattle.aig_replay.specs.WitnessLines.{witness_text}
use Rattle.aig_command.specs.declared.request.Property.{Property}
use Rattle.aig_command.specs.declared.request.Reach.{Reach}
use Rattle.aig_commands.specs.File.{IsFileOf}
use Rattle.aig_commands.specs.Laws.{ReachTextsAreUnambiguous, SolverAnswersAreConfirmed}
use Rattle.aig_commands.specs.Property.{property_model}
use Rattle.aig_commands.specs.Reaching.{IsClaimedBy, IsSelectedModel, claimed_text}
use Rattle.aig_binary.proofs.Files.{one_circuit}
use Rattle.aig_commands.proofs.Properties.{claimed_of_bad, one_claim, text_of_bad}
use Rattle.aig_commands.proofs.TripsExist.{well_formed_file}

-- a model has one selected circuit
pub one_selected : (request : Reach) (selected again : Circuit) (model : List ℕ)
    → IsSelectedModel request model selected
    → IsSelectedModel request model again → selected ≡ again
one_selected request selected again model p q =
    let found =
    one_circuit model request.max_var p.has_clauses.found q.has_clauses.found p.has_clauses.read q.has_clauses.read in
    p.selected_is ∙ ap (property_model request.property) found ∙ sym q.selected_is

pub reach_texts_are_unambiguous : ReachTextsAreUnambiguous
reach_texts_are_unambiguous request selected again model answer text other of_model of_model_too is is_too =
    let p = of_model.has_clauses in
    let good = well_formed_file model request.max_var p.found p.read in
    let has = p.is_text.is_unrolled.has_property in
    let same = one_selected request selected again model of_model of_model_too in
    let reached = is.claimed p.found good has of_model.selected_is in
    let reached_too = is_too.claimed p.found good has (sym same ∙ of_model.selected_is) in
    let claims =
    one_claim request.property p.found request.frames answer is.claim is_too.claim good has reached reached_too in
    is.written_as ∙ ap (claimed_text request.property) claims ∙ sym is_too.written_as

pub solver_answers_are_confirmed : SolverAnswersAreConfirmed
solver_answers_are_confirmed request bad judging selected model answer text is_bad limit of_model is =
    let p = of_model.has_clauses in
    let good = well_formed_file model request.max_var p.found p.read in
    let reached : ReachedBy p.found bad request.frames answer is.claim =
    claimed_of_bad bad p.found request.frames answer is.claim
    (subst (λ (property : Property). IsClaimedBy p.found property request.frames answer is.claim) is_bad
    (is.claimed p.found good p.is_text.is_unrolled.has_property of_model.selected_is)) in
    let written : text ≡ witness_text is.claim =
    is.written_as ∙ ap (λ (property : Property). claimed_text property is.claim) is_bad ∙ text_of_bad bad is.claim in (
      reached.hit.step,
      reached.low,
      record {
        found = p.found;
        claim = is.claim;
        read = subst (λ n. IsFileOf model n p.found) (sym limit) p.read;
        says = bad_state_kept p.found text is.claim
            (subst (λ bytes. SaysClaim p.found bytes is.claim) (sym written) reached.says);
        is_verdict = reached.is_verdict;
      },
      reached.named,
    )
