-- What a job comes to, of all its sources.
use Rattle.std.proofs.Common.{◌≡◌, ◌<◌, ◌⊎◌, List, ℕ, Ok, Err, Bool, arith, false, inl, inr, refl}
use Rattle.std.proofs.Common.{subst, sym, true}
use Rattle.aig_circuit.specs.declared.circuit.Circuit.{Circuit}
use Rattle.aig_command.specs.declared.request.Invariant.{Invariant}
use Rattle.aig_command.specs.declared.request.Miter.{Miter}
use Rattle.aig_command.specs.declared.request.SolverFile.TheVariants.{Answer, Refutation}
use Rattle.aig_command.specs.declared.request.ToAig.{ToAig}
use Rattle.aig_command.specs.declared.request.Unroll.{Unroll}
use Rattle.aig_invariant.specs.Invariant.{with_invariant}
use Rattle.aig_invariant.specs.Outcome.{HasCubes}
use Rattle.aig_io.specs.Runs.{AtEnd}
use Rattle.aig_commands.proofs.TripsExist.{well_formed_file}
use Rattle.aig_commands.specs.Jobs.{Makes, Refuses, WritesText, read_for, reads_of, source_of}
use Rattle.aig_commands.specs.Jobs.{sources_left, text_of}
use Rattle.aig_commands.specs.Comparing.{IsMiterText, NotMiter}
use Rattle.aig_commands.specs.Conversion.{IsConversionRefused, IsConversionText}
use Rattle.aig_commands.specs.Proving.{IsInvariantModel, IsInvariantText, IsNeverText, IsStrengthened}
use Rattle.aig_commands.specs.Reaching.{IsReachText}
use Rattle.aig_commands.specs.Refuting.{IsNoneText}
use Rattle.aig_commands.specs.Unrolling.{IsUnrollingRefused, IsUnrollingText}
use Rattle.aig_commands.specs.declared.answer.Answer.{Answer as AnswerRecord}
use Rattle.aig_commands.specs.declared.job.Job.{Job}
use Rattle.aig_commands.specs.declared.job.Job.TheVariants as jobs
use Rattle.aig_commands.specs.declared.job.Reading.{Reading}
use Rattle.aig_commands.specs.declared.job.Reading.TheVariants as readings
use Rattle.aig_fault.specs.declared.fault.Fault.{Fault}
use Rattle.aig_library.specs.Answers.{IsAnswerRefused, IsAnswerText, IsNeverOfModel, IsNeverRefused, IsNoneRefused}
use Rattle.aig_library.specs.Answers.{IsNoneWithinModel, IsProvingRefused, IsProvingText}
use Rattle.aig_library.specs.Asked.{proving, reaching}
use Rattle.aig_library.specs.Memory.{Comes, HasNoSteps, input_at, is_refused, is_written, makes}
use Rattle.aig_library.specs.declared.memory.Inputs.{Inputs}

-- an invariant is read for what leaves no steps
no_steps : (refuted : Bool) (request : Invariant) (selected : Circuit)
    → HasNoSteps (jobs.Read (read_for refuted request selected))
no_steps true request selected = tt
no_steps false request selected = tt

-- a reading of no steps leads to none
pub no_steps_then : (reading : Reading) (bytes : List ℕ) (next : Job) → HasNoSteps (jobs.Read reading)
    → Makes reading bytes next → HasNoSteps next
no_steps_then (readings.Reach request) bytes next none (selected, is, then) = rw then tt
no_steps_then (readings.Invariant request) bytes next none (selected, is, then) =
    rw then (no_steps request.refuted request selected)
no_steps_then (readings.Strengthen request selected) bytes next none (strengthened, is, then) = rw then tt
no_steps_then (readings.ToAig request) bytes next none (answer, is, then) = rw then tt
no_steps_then (readings.Unroll request) bytes next none (answer, is, then) = rw then tt
no_steps_then (readings.Solved request selected) bytes next none (answer, is, then) = rw then tt
no_steps_then (readings.Clauses request selected) bytes next none (answer, is, then) = rw then tt
no_steps_then (readings.Never request strengthened) bytes next none (answer, is, then) = rw then tt
no_steps_then (readings.First request) bytes next none (first, is, then) = rw then tt
no_steps_then (readings.Second request first) bytes next none (answer, is, then) = rw then tt
no_steps_then (readings.Sim request) bytes next none made = absurd none
no_steps_then (readings.Info request) bytes next none (answer, is, then) = rw then tt
no_steps_then (readings.Select request) bytes next none made = absurd none
no_steps_then (readings.ToDot request) bytes next none made = absurd none

module _ (inputs : Inputs) where
  -- a reading came to a text, or to a fault, by what it made
  then_text : (reading : Reading) (text : List ℕ) → Comes inputs (jobs.Read reading) (Ok text)
      → (next : Job) × Makes reading (input_at inputs (source_of reading)) next × Comes inputs next (Ok text)
  then_text reading text (makes _ next _ made comes) = (next, made, comes)

  then_fault : (reading : Reading) (fault : Fault) → Comes inputs (jobs.Read reading) (Err fault)
      → Refuses reading fault (input_at inputs (source_of reading)) AtEnd
      ⊎ ((next : Job) × Makes reading (input_at inputs (source_of reading)) next × Comes inputs next (Err fault))
  then_fault reading fault (is_refused _ _ why) = inl why
  then_fault reading fault (makes _ next _ made comes) = inr (next, made, comes)

  the_text : (answer : AnswerRecord) (text : List ℕ) → Comes inputs (jobs.Write answer) (Ok text)
      → text ≡ text_of answer
  the_text answer text (is_written _) = refl

  no_fault : (answer : AnswerRecord) (fault : Fault) → Comes inputs (jobs.Write answer) (Err fault) → ⊥
  no_fault answer fault comes = elim comes [ ]

  -- of a reading after which an answer is written
  module _ (reading : Reading) (IsText : List ℕ → Type 0)
      (last : (next : Job) → Makes reading (input_at inputs (source_of reading)) next → WritesText IsText next) where
    pub last_text : (text : List ℕ) → Comes inputs (jobs.Read reading) (Ok text) → IsText text
    last_text text comes =
        let (next, made, rest) = then_text reading text comes in
        let (answer, is_text, then) = last next made in
        subst IsText (sym (the_text answer text (rw then at rest))) is_text

    pub last_fault : (fault : Fault) → Comes inputs (jobs.Read reading) (Err fault)
        → Refuses reading fault (input_at inputs (source_of reading)) AtEnd
    last_fault fault comes =
        elim (then_fault reading fault comes) [
          | inl why ↦ why
          | inr (next, made, rest) ↦
              let (answer, is_text, then) = last next made in
              absurd (no_fault answer fault (rw then at rest))
        ]

  pub conversion_text : (request : ToAig) (text : List ℕ)
      → Comes inputs (jobs.Read (readings.ToAig request)) (Ok text) → IsConversionText request inputs.model.now text
  conversion_text request =
      last_text (readings.ToAig request) (IsConversionText request inputs.model.now) (λ next made. made)

  pub conversion_refused : (request : ToAig) (fault : Fault)
      → Comes inputs (jobs.Read (readings.ToAig request)) (Err fault)
      → IsConversionRefused request fault inputs.model.now
  conversion_refused request fault comes =
      let why = last_fault (readings.ToAig request) (IsConversionText request inputs.model.now) (λ next made. made) in
      (why fault comes).1

  pub unrolling_text : (request : Unroll) (text : List ℕ)
      → Comes inputs (jobs.Read (readings.Unroll request)) (Ok text) → IsUnrollingText request inputs.model.now text
  unrolling_text request =
      last_text (readings.Unroll request) (IsUnrollingText request inputs.model.now) (λ next made. made)

  pub unrolling_refused : (request : Unroll) (fault : Fault)
      → Comes inputs (jobs.Read (readings.Unroll request)) (Err fault)
      → IsUnrollingRefused request fault inputs.model.now
  unrolling_refused request fault comes =
      let why = last_fault (readings.Unroll request) (IsUnrollingText request inputs.model.now) (λ next made. made) in
      (why fault comes).1

  pub miter_text : (request : Miter) (first : Circuit) (text : List ℕ)
      → Comes inputs (jobs.Read (readings.Second request first)) (Ok text)
      → IsMiterText request first inputs.file.now text
  miter_text request first =
      last_text (readings.Second request first) (IsMiterText request first inputs.file.now) (λ next made. made)

  pub miter_refused : (request : Miter) (first : Circuit) (fault : Fault)
      → Comes inputs (jobs.Read (readings.Second request first)) (Err fault)
      → NotMiter request first fault inputs.file.now
  miter_refused request first fault comes =
      let why =
      last_fault (readings.Second request first) (IsMiterText request first inputs.file.now) (λ next made. made) in
      (why fault comes).1

  module _ (bad frames max_var : ℕ) where
    pub answer_text : (text : List ℕ)
        → Comes inputs (jobs.Read (readings.Reach (reaching Answer bad frames max_var))) (Ok text)
        → IsAnswerText (reaching Answer bad frames max_var) inputs.model.now inputs.file.now text
    answer_text text comes =
        let request = reaching Answer bad frames max_var in
        let (next, (selected, is_model, then), rest) = then_text (readings.Reach request) text comes in
        record {
          selected = selected;
          is_model = is_model;
          is_text = last_text (readings.Solved request selected) (IsReachText request selected inputs.file.now)
              (λ next made. made) text (rw then at rest);
        }

    pub answer_refused : (fault : Fault)
        → Comes inputs (jobs.Read (readings.Reach (reaching Answer bad frames max_var))) (Err fault)
        → IsAnswerRefused (reaching Answer bad frames max_var) inputs.model.now inputs.file.now fault
    answer_refused fault comes =
        let request = reaching Answer bad frames max_var in
        elim (then_fault (readings.Reach request) fault comes) [
          | inl why ↦ inl why.1
          | inr (next, (selected, is_model, then), rest) ↦
              let IsText = IsReachText request selected inputs.file.now in
              let why = last_fault (readings.Solved request selected) IsText (λ next made. made) in
              inr (selected, is_model, why fault (rw then at rest))
        ]

    pub none_within : (text : List ℕ)
        → Comes inputs (jobs.Read (readings.Reach (reaching Refutation bad frames max_var))) (Ok text)
        → IsNoneWithinModel (reaching Refutation bad frames max_var) inputs.model.now
    none_within text comes =
        let request = reaching Refutation bad frames max_var in
        let (next, (selected, is_model, then), rest) = then_text (readings.Reach request) text comes in
        let IsText = IsNoneText request selected in
        let is : IsText text =
        last_text (readings.Solved request selected) IsText (λ next made. made) text (rw then at rest) in
        let has = is_model.has_clauses in
        record {
          selected = selected;
          is_model = is_model;
          none = is.none has.found (well_formed_file inputs.model.now request.max_var has.found has.read)
              has.is_text.is_unrolled.has_property is_model.selected_is;
        }

    pub none_refused : (fault : Fault)
        → Comes inputs (jobs.Read (readings.Reach (reaching Refutation bad frames max_var))) (Err fault)
        → IsNoneRefused (reaching Refutation bad frames max_var) inputs.model.now inputs.file.now fault
    none_refused fault comes =
        let request = reaching Refutation bad frames max_var in
        elim (then_fault (readings.Reach request) fault comes) [
          | inl why ↦ inl why.1
          | inr (next, (selected, is_model, then), rest) ↦
              let why =
              last_fault (readings.Solved request selected) (IsNoneText request selected) (λ next made. made) fault
              (rw then at rest) in
              inr (selected, is_model, why)
        ]

  module _ (bad max_var : ℕ) where
    pub proving_text : (text : List ℕ)
        → Comes inputs (jobs.Read (readings.Invariant (proving false bad max_var))) (Ok text)
        → IsProvingText (proving false bad max_var) inputs.model.now inputs.file.now text
    proving_text text comes =
        let request = proving false bad max_var in
        let (next, (selected, is_model, then), rest) = then_text (readings.Invariant request) text comes in
        record {
          selected = selected;
          is_model = is_model;
          is_text = last_text (readings.Clauses request selected)
              (IsInvariantText request selected inputs.file.now) (λ next made. made) text (rw then at rest);
        }

    pub proving_refused : (fault : Fault)
        → Comes inputs (jobs.Read (readings.Invariant (proving false bad max_var))) (Err fault)
        → IsProvingRefused (proving false bad max_var) inputs.model.now inputs.file.now fault
    proving_refused fault comes =
        let request = proving false bad max_var in
        elim (then_fault (readings.Invariant request) fault comes) [
          | inl why ↦ inl why.1
          | inr (next, (selected, is_model, then), rest) ↦
              let why =
              last_fault (readings.Clauses request selected) (IsInvariantText request selected inputs.file.now)
              (λ next made. made) fault (rw then at rest) in
              inr (selected, is_model, why.1)
        ]

    never_shown : (selected strengthened : Circuit) (text : List ℕ)
        → IsInvariantModel (proving true bad max_var) inputs.model.now selected
        → IsStrengthened selected inputs.file.now strengthened
        → IsNeverText (proving true bad max_var) strengthened text
        → IsNeverOfModel (proving true bad max_var) inputs.model.now inputs.file.now
    never_shown selected strengthened text is_model is shown =
        let has = is_model.has_clauses in
        let request = proving true bad max_var in
        record {
          selected = selected;
          strengthened = strengthened;
          is_model = is_model;
          is_strengthened = is;
          never = shown.never has.found inputs.file.now is.cubes
              (well_formed_file inputs.model.now request.max_var has.found has.read)
              has.is_text.is_unrolled.has_property (subst (λ c. HasCubes c inputs.file.now is.cubes) is_model.selected_is is.has_cubes)
              (subst (λ c. strengthened ≡ with_invariant is.cubes c) is_model.selected_is is.strengthened_is);
        }

    pub never_of_model : (text : List ℕ)
        → Comes inputs (jobs.Read (readings.Invariant (proving true bad max_var))) (Ok text)
        → IsNeverOfModel (proving true bad max_var) inputs.model.now inputs.file.now
    never_of_model text comes =
        let request = proving true bad max_var in
        let (next, (selected, is_model, then), rest) = then_text (readings.Invariant request) text comes in
        let (last, (strengthened, is, next_is), end) =
        then_text (readings.Strengthen request selected) text (rw then at rest) in
        never_shown selected strengthened text is_model is
        (last_text (readings.Never request strengthened) (IsNeverText request strengthened) (λ next made. made) text
        (rw next_is at end))

    pub never_refused : (fault : Fault)
        → Comes inputs (jobs.Read (readings.Invariant (proving true bad max_var))) (Err fault)
        → IsNeverRefused (proving true bad max_var) inputs.model.now inputs.file.now inputs.refutation.now fault
    never_refused fault comes =
        let request = proving true bad max_var in
        elim (then_fault (readings.Invariant request) fault comes) [
          | inl why ↦ inl (inl why.1)
          | inr (next, (selected, is_model, then), rest) ↦
              elim (then_fault (readings.Strengthen request selected) fault (rw then at rest)) [
                | inl why ↦ inl (inr (selected, is_model, why.1))
                | inr (last, (strengthened, is, next_is), end) ↦
                    let IsText = IsNeverText request strengthened in
                    let why =
                    last_fault (readings.Never request strengthened) IsText (λ next made. made) fault
                    (rw next_is at end) in
                    inr (selected, strengthened, is_model, is, why)
              ]
        ]
