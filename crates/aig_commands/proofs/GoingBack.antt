-- What is shown of a file's conversion is so of the file.
use Rattle.std.proofs.Common.{◌≡◌, ◌∙◌, ℕ, List, refl, subst, sym}
use Rattle.aig_circuit.specs.declared.circuit.TheConstants.{LARGEST}
use Rattle.aig_command.specs.declared.request.BadStates.TheVariants.{Kept}
use Rattle.aig_command.specs.declared.request.Sim.{Sim}
use Rattle.aig_command.specs.declared.request.ToAig.{ToAig}
use Rattle.aig_replay.specs.Laws.{IsOfSelected}
use Rattle.aig_verdicts.specs.declared.verdict.WitnessVerdict.TheVariants.{BadState}
use Rattle.aig_witness.specs.declared.verdict.Verdict.TheVariants.{Confirmed}
use Rattle.aig_commands.specs.Conversion.{IsConversionText}
use Rattle.aig_commands.specs.File.{IsFileOf}
use Rattle.aig_commands.specs.Laws.{AnswersGoBack, InvariantsGoBack, RefutationsGoBack}
use Rattle.aig_commands.specs.WitnessOutcome.{IsWitnessAnswer}
use Rattle.aig_commands.proofs.Meant.{converted_file}
use Rattle.aig_commands.proofs.Provings.{never_is_never}
use Rattle.aig_commands.proofs.Reachings.{solver_answers_are_confirmed}
use Rattle.aig_commands.proofs.Refutings.{refutations_mean_none}
use Rattle.aig_commands.proofs.Verdicts.{carried, verdicts_are_kept}

pub answers_go_back : AnswersGoBack
answers_go_back conversion request bad judging selected file converted answer text kept limit of_request of_judging
    is_bad is of_model reached =
    let shown = solver_answers_are_confirmed request bad judging selected converted answer text is_bad
    (of_judging ∙ sym of_request) of_model reached in
    let verdicts = verdicts_are_kept conversion judging judging kept limit of_judging of_judging file converted text
    (Confirmed shown.0) is in
    (shown.0, shown.1, verdicts.1 shown.2)

-- A verdict on the file is one on its conversion, of the same claim.
module _ (conversion : ToAig) (judging : Sim) (file converted witness : List ℕ) (step : ℕ)
    (kept : conversion.bad_states ≡ Kept) (limit : conversion.max_var ≡ LARGEST)
    (of_judging : judging.max_var ≡ LARGEST) (is : IsConversionText conversion file converted)
    (confirmed : IsWitnessAnswer judging file witness (BadState (Confirmed step))) where
  abbrev there : IsWitnessAnswer judging converted witness (BadState (Confirmed step))
  there =
      let made = converted_file conversion file converted kept is in
      carried judging judging file converted witness (Confirmed step) is.found made.0 of_judging of_judging
      (subst (λ n. IsFileOf file n is.found) limit is.read) made.1 made.2 confirmed

  same_claim : there.claim ≡ confirmed.claim
  unfolding carried
  same_claim = refl

pub refutations_go_back : RefutationsGoBack
refutations_go_back conversion request bad judging selected file converted text witness step kept limit of_request
    of_judging is_bad is of_model none low confirmed of_selected =
    let over = there conversion judging file converted witness step kept limit of_judging is confirmed in
    refutations_mean_none request bad judging selected converted text witness step is_bad (of_judging ∙ sym of_request)
    of_model none low over
    (subst (λ claim. IsOfSelected bad claim)
    (sym (same_claim conversion judging file converted witness step kept limit of_judging is confirmed)) of_selected)

pub invariants_go_back : InvariantsGoBack
invariants_go_back conversion request bad judging selected strengthened file converted invariant text witness step kept
    limit of_request of_judging is_bad is of_model shown never confirmed of_selected =
    let over = there conversion judging file converted witness step kept limit of_judging is confirmed in
    never_is_never request bad judging selected strengthened converted invariant text witness step is_bad
    (of_judging ∙ sym of_request) of_model shown never over
    (subst (λ claim. IsOfSelected bad claim)
    (sym (same_claim conversion judging file converted witness step kept limit of_judging is confirmed)) of_selected)
