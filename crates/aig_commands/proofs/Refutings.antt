-- Where the clauses of an unrolled circuit are refuted, nothing is confirmed.
use Rattle.std.proofs.Common.{◌≡◌, ℕ, Bool, List, Result, Ok, Err, false, refl, subst, true}
use Rattle.aig_circuit.specs.declared.circuit.Circuit.{Circuit}
use Rattle.aig_cnf.specs.Clauses.{Satisfies, bad_clauses}
use Rattle.aig_fault.specs.declared.stopped.Stopped.{Stopped}
use Rattle.aig_fault.specs.declared.stopped.Stopped.TheVariants as stops
use Rattle.aig_io.specs.Devices.{History}
use Rattle.aig_io.specs.Runs.{Ending, Read}
use Rattle.aig_io.proofs.Runs.{read_weaker}
use Rattle.aig_cuts.specs.Cuts.{IsCutOf, cut_clauses}
use Rattle.aig_cuts.specs.declared.cut.Cut.{Cut}
use Rattle.aig_cuts.proofs.Completing.{cuts_follow}
use Rattle.aig_refute.specs.Refuted.{IsRefusedWhere, RefutationSays, literals_of}
use Rattle.aig_refute_cuts.specs.Says.{CutRefutationSays}
use Rattle.aig_fault.specs.declared.fault.Fault.{Fault}
use Rattle.aig_commands.specs.Unrolling.{AreClausesOf}
use Rattle.aig_command.specs.declared.request.Property.{Property}
use Rattle.aig_unroll.specs.Unrolled.{IsUnrolled}
use Rattle.aig_witness.specs.declared.verdict.Verdict.TheVariants.{Confirmed}
use Rattle.aig_witness.specs.Witness.{IsVerdict}
use Rattle.aig_binary.proofs.Files.{one_circuit}
use Rattle.aig_command.specs.declared.request.Reach.{Reach}
use Rattle.aig_commands.specs.File.{IsFileOf}
use Rattle.aig_commands.specs.Laws.{RefutationsMeanNone}
use Rattle.aig_commands.specs.Reading.{ReadSays}
use Rattle.aig_commands.specs.Refuting.{IsNoneText, IsRefutationRefused, IsRefutedFor, IsUnsatisfiable, NoRunHasWithin}
use Rattle.aig_commands.specs.Refuting.{format_of, none_text}
use Rattle.aig_reduce.proofs.Reductions.{reductions_are_satisfied_alike}
use Rattle.aig_commands.proofs.Properties.{none_of_bad, none_within}
use Rattle.aig_commands.proofs.Readings.{CameWhole, made_after}
use Rattle.aig_commands.proofs.TripsExist.{well_formed_file}

-- what satisfies the clauses of a circuit satisfies those that are written of it
clauses_follow : (simplify : Bool) (d : Circuit) (clauses : List (List ℕ)) → AreClausesOf simplify d clauses
    → (a : ℕ → Bool) → Satisfies a (bad_clauses d) → Satisfies a clauses
clauses_follow true d clauses (plan, right, are) a satisfied = rw are (cuts_follow plan d right a satisfied)
clauses_follow false d clauses are a satisfied = rw are satisfied

-- a refutation was read: it is right, or is refused
module _ (request : Reach) (selected d : Circuit) (is : IsRefutedFor request selected d) where
  abbrev pub Says : (r : Result (Unit {0}) Stopped) → List ℕ → Ending → Type 0
  Says r = ReadSays {A = Unit {0}} (λ _ _. IsUnsatisfiable selected request.frames) (IsRefutationRefused request selected) r

  module _ (clauses : List (List ℕ)) (are : AreClausesOf request.simplify d clauses) where
    -- what satisfies the clauses of the unrolled circuit goes over to those that are refuted
    unsatisfiable : ((a : ℕ → Bool) → ¬ Satisfies a clauses) → IsUnsatisfiable selected request.frames
    unsatisfiable none = (
      is.unrolled,
      is.formed,
      is.is_unrolled,
      λ a satisfied.
          (let over = (reductions_are_satisfied_alike request.simplify is.unrolled d is.formed is.is_reduced).0 a
          satisfied in
          none over.0 (clauses_follow request.simplify d clauses are over.0 over.1)),
    )

    refused_so : (fault : Fault) (bytes : List ℕ) (ending : Ending)
        → IsRefusedWhere (format_of request.lrat) clauses (literals_of d) fault bytes ending
        → IsRefutationRefused request selected fault bytes ending
    refused_so fault bytes ending why = (d, is, clauses, are, why)

  plain_says : (whole : request.simplify ≡ false) (r : Result (Unit {0}) Stopped) (bytes : List ℕ) (ending : Ending)
      → RefutationSays (format_of request.lrat) d r bytes ending → Says r bytes ending
  plain_says whole (Ok done) bytes ending says =
      (says.0, unsatisfiable (bad_clauses d) (rw whole refl) says.1)
  plain_says whole (Err stops.OutOfMemory) bytes ending says = says
  plain_says whole (Err stops.ReadFailed) bytes ending says = says
  plain_says whole (Err stops.WriteFailed) bytes ending says = says
  plain_says whole (Err (stops.Refused fault)) bytes ending says =
      refused_so (bad_clauses d) (rw whole refl) fault bytes ending says

  pub refutation_read : request.simplify ≡ false → (r : Result (Unit {0}) Stopped) (before after : History)
      → Read (RefutationSays (format_of request.lrat) d r) before after → Read (Says r) before after
  refutation_read whole r before after = read_weaker _ _ before after (plain_says whole r)

  module _ (plan : List Cut) (right : IsCutOf plan d) (cut : request.simplify ≡ true) where
    are_cut : AreClausesOf request.simplify d (cut_clauses plan d)
    are_cut = rw cut (plan, right, refl)

    cut_says : (r : Result (Unit {0}) Stopped) (bytes : List ℕ) (ending : Ending)
        → CutRefutationSays (format_of request.lrat) plan d r bytes ending → Says r bytes ending
    cut_says (Ok done) bytes ending says = (says.0, unsatisfiable (cut_clauses plan d) are_cut says.1)
    cut_says (Err stops.OutOfMemory) bytes ending says = says
    cut_says (Err stops.ReadFailed) bytes ending says = says
    cut_says (Err stops.WriteFailed) bytes ending says = says
    cut_says (Err (stops.Refused fault)) bytes ending says =
        refused_so (cut_clauses plan d) are_cut fault bytes ending says

    pub cut_refutation_read : (r : Result (Unit {0}) Stopped) (before after : History)
        → Read (CutRefutationSays (format_of request.lrat) plan d r) before after → Read (Says r) before after
    cut_refutation_read r before after = read_weaker _ _ before after (cut_says r)

-- where no assignment lets a bad state be 1, no claim is confirmed
is_none : (request : Reach) (selected : Circuit) → IsUnsatisfiable selected request.frames
    → IsNoneText request selected (none_text request.frames)
is_none request selected (d, formed, is, none) = record {
  none = λ c good there same.
      none_within d formed none request.property c request.frames good there
      (subst (λ (k : Circuit). IsUnrolled k request.frames d) same is);
  written_as = refl;
}

pub none_read : (request : Reach) (selected : Circuit) (before after : History)
    → Read (CameWhole (λ _. IsUnsatisfiable selected request.frames)) before after
    → Read (CameWhole (λ _. IsNoneText request selected (none_text request.frames))) before after
none_read request selected before after = made_after _ before after _ (λ _ none. is_none request selected none)

pub refutations_mean_none : RefutationsMeanNone
refutations_mean_none request bad judging selected model text witness step is_bad limit of_model is low confirmed
    of_selected =
    let p = of_model.has_clauses in
    let good = well_formed_file model request.max_var p.found p.read in
    let read : IsFileOf model request.max_var confirmed.found =
    subst (λ n. IsFileOf model n confirmed.found) limit confirmed.read in
    let same = one_circuit model request.max_var confirmed.found p.found read p.read in
    let none = none_of_bad bad p.found request.frames
    (subst (λ (property : Property). NoRunHasWithin p.found property request.frames) is_bad
    (is.none p.found good p.is_text.is_unrolled.has_property of_model.selected_is)) in
    none confirmed.claim step low of_selected
    (subst (λ (k : Circuit). IsVerdict k confirmed.claim (Confirmed step)) same confirmed.is_verdict)
