-- What comes of an invariant that is read, and of a refutation of its clauses.
use Rattle.std.proofs.Common.{◌≡◌, ◌∙◌, ℕ, List, Result, Ok, Err, IfErr, IfOk, ap, false, inl, inr, refl, subst, sym}
use Rattle.aig_rows.proofs.Steps.{ok_same}
use Rattle.aig_circuit.specs.declared.circuit.Circuit.{Circuit}
use Rattle.aig_circuit.specs.Wellformed.{IsWellFormed}
use Rattle.aig_cnf.specs.ClauseText.{cnf_text}
use Rattle.aig_fault.specs.Stopping.{StopsFor}
use Rattle.aig_fault.specs.declared.fault.Fault.{Fault}
use Rattle.aig_fault.specs.declared.stopped.Stopped.{Stopped}
use Rattle.aig_fault.specs.declared.stopped.Stopped.TheVariants as stops
use Rattle.aig_fault.proofs.Stoppings.{stops_weaker}
use Rattle.aig_io.specs.Devices.{History}
use Rattle.aig_io.specs.Runs.{Ending, Read}
use Rattle.aig_io.proofs.Runs.{read_weaker}
use Rattle.aig_invariant.specs.Invariant.{Cube, with_invariant}
use Rattle.aig_invariant.specs.Outcome.{HasCubes, InvariantSays, NotInvariant}
use Rattle.aig_unroll.specs.Outcome.{HasClauses}
use Rattle.aig_unroll.specs.Unrolled.{IsUnrolled}
use Rattle.aig_unroll.proofs.Ordering.Ordered.{one_unrolled}
use Rattle.aig_witness.specs.declared.verdict.Verdict.TheVariants.{Confirmed}
use Rattle.aig_witness.specs.Witness.{IsVerdict}
use Rattle.aig_binary.proofs.Files.{one_circuit}
use Rattle.aig_command.specs.declared.request.Invariant.{Invariant}
use Rattle.aig_command.specs.declared.request.Property.{Property}
use Rattle.aig_command.specs.declared.request.Property.TheVariants.{AnyBad}
use Rattle.aig_command.specs.declared.request.UnrolledForm.TheVariants.{Clauses}
use Rattle.aig_commands.specs.declared.answer.Answer.{Answer}
use Rattle.aig_commands.specs.File.{IsFileOf}
use Rattle.aig_commands.specs.Jobs.{text_of}
use Rattle.aig_commands.specs.Laws.{InvariantTextsAreUnambiguous, NeverIsNever}
use Rattle.aig_commands.specs.Proving.{IsInvariantText, IsNeverText, IsStrengthened, NotStrengthened, never_text}
use Rattle.aig_commands.specs.Proving.{NoRunHas, clauses_over_one_frame, over_one_frame}
use Rattle.aig_commands.specs.Reading.{AtItsEnd, NotRead, ReadSays}
use Rattle.aig_commands.specs.Refuting.{IsRefutationRefused, IsUnsatisfiable}
use Rattle.aig_commands.specs.Unrolling.{IsTextOf, IsUnrolledFor, NotUnrolledAs}
use Rattle.aig_commands.proofs.Properties.{never_of_bad, none_ever}
use Rattle.aig_commands.proofs.Reachings.{one_selected}
use Rattle.aig_commands.proofs.Readings.{CameWhole, made_after, stopped_after}
use Rattle.aig_commands.proofs.TripsExist.{well_formed_file}

-- an invariant is refused for this reason
not_taken : (selected : Circuit) (stopped : Stopped) (bytes : List ℕ) (ending : Ending)
    → NotInvariant selected stopped bytes ending
    → NotRead (AtItsEnd (NotStrengthened selected)) stopped bytes ending
not_taken selected (stops.Refused fault) bytes ending why = (why.0, inl why.1)
not_taken selected stopped bytes ending why = why

pub invariant_refused : (selected : Circuit) (stopped : Stopped) (before after : History)
    → Read (InvariantSays selected (Err stopped)) before after
    → Read (NotRead (AtItsEnd (NotStrengthened selected)) stopped) before after
invariant_refused selected stopped before after = read_weaker _ _ before after (not_taken selected stopped)

-- the bytes are an invariant of the circuit with the selected bad state, and this is the circuit in which it is to be
-- shown
abbrev pub IsMadeOf : Circuit → Circuit → List ℕ → Type 0
IsMadeOf selected made bytes = (cubes : List Cube) × HasCubes selected bytes cubes
    × (made ≡ with_invariant cubes selected)

pub made_whole : (selected made : Circuit) (before after : History)
    → Read (InvariantSays selected (Ok made)) before after
    → Read (CameWhole (IsMadeOf selected made)) before after
made_whole selected made before after =
    read_weaker _ _ before after (λ bytes ending says. (says.0, (says.1, says.2, says.3)))

module _ (selected made : Circuit) (bytes : List ℕ) (is : IsMadeOf selected made bytes) where
  -- it has clauses
  abbrev pub strengthened_as : ((d : Circuit) × IsUnrolledFor AnyBad 1 made d × HasClauses d)
      → IsStrengthened selected bytes made
  strengthened_as (d, unrolled, clauses) = record {
    cubes = is.0;
    unrolled = d;
    has_cubes = is.1;
    strengthened_is = is.2;
    is_unrolled = unrolled;
    has_clauses = clauses;
  }

  -- which are written
  pub clauses_of : (request : Invariant) (text : List ℕ) → IsTextOf (clauses_over_one_frame request) made text
      → IsInvariantText request selected bytes text
  clauses_of request text t = record {
    strengthened = made;
    written = t.written;
    is_strengthened = strengthened_as (t.unrolled, t.is_unrolled, t.is_writable);
    is_written = t.is_written;
    written_as = t.written_as;
  }

  -- or it has none
  pub not_strengthened : (stopped : Stopped) → StopsFor (NotUnrolledAs (Clauses AnyBad) 1 made) stopped
      → StopsFor (λ fault. NotStrengthened selected fault bytes) stopped
  not_strengthened stopped =
      stops_weaker _ (λ fault. NotStrengthened selected fault bytes) stopped
      (λ fault why. inr (is.0, is.1, subst (λ (c : Circuit). NotUnrolledAs (Clauses AnyBad) 1 c fault) is.2 why))

-- an invariant was read, and the circuit in which it is to be shown has clauses or none
pub strengthened_read : (selected made : Circuit) (r : Result Circuit Stopped) (before after : History)
    → IfOk r (λ c. c ≡ made) → IfOk r (λ c. (d : Circuit) × IsUnrolledFor AnyBad 1 c d × HasClauses d)
    → IfErr r (StopsFor (NotUnrolledAs (Clauses AnyBad) 1 made)) → Read (CameWhole (IsMadeOf selected made)) before after
    → Read (ReadSays {A = Circuit} (λ c bytes. IsStrengthened selected bytes c) (AtItsEnd (NotStrengthened selected)) r)
    before after
strengthened_read selected made (Ok c) before after same clauses none read =
    made_after _ before after (λ bytes. IsStrengthened selected bytes c)
    (λ bytes is. strengthened_as selected c bytes (is.0, is.1, same ∙ is.2) clauses) read
strengthened_read selected made (Err stopped) before after same clauses why read =
    stopped_after _ before after (NotStrengthened selected) stopped
    (λ bytes is. not_strengthened selected made bytes is stopped why) read

-- the same where its clauses are written
pub clauses_read : (request : Invariant) (selected made : Circuit) (r : Result Answer Stopped) (before after : History)
    → IfOk r (λ answer. IsTextOf (clauses_over_one_frame request) made (text_of answer))
    → IfErr r (StopsFor (NotUnrolledAs (Clauses AnyBad) 1 made))
    → Read (CameWhole (IsMadeOf selected made)) before after
    → Read (ReadSays {A = Answer} (λ answer bytes. IsInvariantText request selected bytes (text_of answer))
    (AtItsEnd (NotStrengthened selected)) r) before after
clauses_read request selected made (Ok answer) before after text none read =
    made_after _ before after (λ bytes. IsInvariantText request selected bytes (text_of answer))
    (λ bytes is. clauses_of selected made bytes is request (text_of answer) text) read
clauses_read request selected made (Err stopped) before after text why read =
    stopped_after _ before after (NotStrengthened selected) stopped
    (λ bytes is. not_strengthened selected made bytes is stopped why) read

-- where no assignment lets a bad state of it be 1, none is ever reached
is_never : (request : Invariant) (strengthened : Circuit) → IsWellFormed strengthened
    → IsUnsatisfiable strengthened 1 → IsNeverText request strengthened never_text
is_never request strengthened good (d, formed, is, none) = record {
  never = λ c invariant cubes formed_first there has same.
      none_ever d formed none request.property c invariant cubes formed_first there has
      (subst (λ (k : Circuit). IsWellFormed k) same good) (subst (λ (k : Circuit). IsUnrolled k 1 d) same is);
  written_as = refl;
}

pub never_reached : (request : Invariant) (strengthened : Circuit) (r : Result (Unit {0}) Stopped)
    (before after : History)
    → IsWellFormed strengthened
    → Read (ReadSays {A = Unit {0}} (λ _ _. IsUnsatisfiable strengthened 1)
    (IsRefutationRefused (over_one_frame request) strengthened) r) before after
    → Read (ReadSays {A = Unit {0}} (λ _ _. IsNeverText request strengthened never_text)
    (IsRefutationRefused (over_one_frame request) strengthened) r) before after
never_reached request strengthened (Ok done) before after good read =
    read_weaker _ _ before after (λ _ _ says. (says.0, is_never request strengthened good says.1)) read
never_reached request strengthened (Err stopped) before after good read = read

pub never_is_never : NeverIsNever
never_is_never request bad judging selected strengthened model invariant text witness step is_bad limit of_model shown is
    confirmed of_selected =
    let p = of_model.has_clauses in
    let good = well_formed_file model request.max_var p.found p.read in
    let read : IsFileOf model request.max_var confirmed.found =
    subst (λ n. IsFileOf model n confirmed.found) limit confirmed.read in
    let same = one_circuit model request.max_var confirmed.found p.found read p.read in
    let never = never_of_bad bad p.found
    (subst (λ (property : Property). NoRunHas p.found property) is_bad
    (is.never p.found invariant shown.cubes good p.is_text.is_unrolled.has_property
    (subst (λ (c : Circuit). HasCubes c invariant shown.cubes) of_model.selected_is shown.has_cubes)
    (shown.strengthened_is ∙ ap (λ (c : Circuit). with_invariant shown.cubes c) of_model.selected_is))) in
    never confirmed.claim step of_selected
    (subst (λ (c : Circuit). IsVerdict c confirmed.claim (Confirmed step)) same confirmed.is_verdict)

-- the bytes of an invariant have one text
one_text : (request : Invariant) (selected : Circuit) (invariant text other : List ℕ) → request.simplify ≡ false
    → IsInvariantText request selected invariant text → IsInvariantText request selected invariant other → text ≡ other
one_text request selected invariant text other whole p q =
    let first = p.is_strengthened in
    let second = q.is_strengthened in
    let cubes =
    ok_same {E = Fault} first.cubes second.cubes (sym first.has_cubes ∙ second.has_cubes) in
    let same : p.strengthened ≡ q.strengthened =
    first.strengthened_is ∙ ap (λ (qs : List Cube). with_invariant qs selected) cubes ∙ sym second.strengthened_is in
    let one = one_unrolled q.strengthened 1 in
    let is : IsUnrolled q.strengthened 1 first.unrolled =
    subst (λ (c : Circuit). IsUnrolled c 1 first.unrolled) same first.is_unrolled.is_unrolled in
    let written : p.written ≡ first.unrolled = rw whole at p.is_written in
    let written_too : q.written ≡ second.unrolled = rw whole at q.is_written in
    (rw whole at p.written_as)
    ∙ ap cnf_text (written ∙ one.2 first.unrolled is ∙ sym (one.2 second.unrolled second.is_unrolled.is_unrolled)
    ∙ sym written_too)
    ∙ sym (rw whole at q.written_as)

pub invariant_texts_are_unambiguous : InvariantTextsAreUnambiguous
invariant_texts_are_unambiguous request selected again model invariant text other whole of_model of_model_too is
    is_too =
    let same = one_selected (over_one_frame request) selected again model of_model of_model_too in
    one_text request again invariant text other whole
    (subst (λ (c : Circuit). IsInvariantText request c invariant text) same is) is_too
