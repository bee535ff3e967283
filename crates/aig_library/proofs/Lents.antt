-- What came of the bytes of a caller, once a call is over.
use Rattle.std.proofs.Common.{◌≡◌, ◌∙◌, ◌++◌, ℕ, Bool, List, None, ap, drop, length, refl, subst, true}
use Rattle.std.proofs.Common.{Err, IfErr, IfOk, Ok, OnOk, Result, inl, inr}
use Rattle.std.proofs.lemmas.List.{take-append-drop}
use Rattle.aig_io.specs.Devices.{History, Origin, unused}
use Rattle.aig_io.specs.Lent.{HasGiven, lent}
use Rattle.aig_io.specs.Runs.{AtEnd, Broken, Ending, Open, Read, Transferred, came}
use Rattle.aig_circuit.specs.declared.circuit.Circuit.{Circuit}
use Rattle.aig_command.specs.declared.request.Reach.{Reach}
use Rattle.aig_command.specs.declared.request.SolverFile.{SolverFile}
use Rattle.aig_command.specs.declared.request.SolverFile.TheVariants as wrote
use Rattle.aig_step.specs.declared.trace.Columns.{Columns}
use Rattle.aig_step.specs.Outcome.{first_bad_line}
use Rattle.aig_step.specs.TraceText.{IsTraceText}
use Rattle.aig_batch.specs.Batched.{BatchSays}
use Rattle.aig_dump.specs.InMemory.{IsBadStimulus, StopsInMemory}
use Rattle.aig_dump.proofs.Lents as lents
use Rattle.aig_refute.specs.Refuted.{IsRefusedWhere, literals_of}
use Rattle.aig_refute.proofs.Followed.{never_broken, refused_behind}
use Rattle.aig_commands.specs.Jobs.{IsSolvedRefused, Refuses}
use Rattle.aig_commands.specs.Proving.{over_one_frame}
use Rattle.aig_commands.specs.Reaching.{IsReachRefused}
use Rattle.aig_commands.specs.Reading.{AtAnyTime, AtItsEnd, ReadSays}
use Rattle.aig_commands.specs.Refuting.{IsRefutationRefused, format_of}
use Rattle.aig_commands.specs.declared.job.Reading.{Reading}
use Rattle.aig_commands.specs.declared.job.Reading.TheVariants as readings
use Rattle.aig_fault.specs.declared.fault.Fault.{Fault}
use Rattle.aig_fault.specs.declared.stopped.Stopped.{Stopped}
use Rattle.aig_fault.specs.declared.stopped.Stopped.TheVariants as stops

module _ (input : List ℕ) (now : History) (given : HasGiven now) where
  -- what was made was made of all of the input
  pub whole : {A : Type 0} (Holds : A → List ℕ → Type 0) (IsRefused : Fault → List ℕ → Ending → Type 0)
      (r : Result A Stopped) → Read (ReadSays Holds IsRefused r) (unused (lent input)) now
      → IfOk r (λ made. Holds made input)
  whole Holds IsRefused (Ok made) read =
      subst (Holds made) (lents.all_read input now given read.bytes (rw read.says.0 at read.came)) read.says.1
  whole Holds IsRefused (Err stopped) read = tt

  -- what stopped it refuses the input, or is want of memory
  pub stopped : {A : Type 0} (Holds : A → List ℕ → Type 0) (IsRefused : Fault → List ℕ → Ending → Type 0)
      (IsFault : Fault → Type 0) (r : Result A Stopped)
      → ((fault : Fault) (bytes : List ℕ) (ending : Ending) → now ≡ came bytes ending (unused (lent input))
      → IsRefused fault bytes ending → IsFault fault)
      → Read (ReadSays Holds IsRefused r) (unused (lent input)) now → IfErr r (StopsInMemory IsFault)
  stopped Holds IsRefused IsFault (Ok made) refuses read = tt
  stopped Holds IsRefused IsFault (Err stops.OutOfMemory) refuses read = tt
  stopped Holds IsRefused IsFault (Err stops.ReadFailed) refuses read = tt
  stopped Holds IsRefused IsFault (Err stops.WriteFailed) refuses read = tt
  stopped Holds IsRefused IsFault (Err (stops.Refused fault)) refuses read =
      refuses fault read.bytes read.ending read.came read.says

  pub at_its_end : (IsRefused : Fault → List ℕ → Type 0) (fault : Fault) (bytes : List ℕ) (ending : Ending)
      → now ≡ came bytes ending (unused (lent input)) → AtItsEnd IsRefused fault bytes ending
      → IsRefused fault input
  at_its_end IsRefused fault bytes ending is says =
      subst (IsRefused fault) (lents.all_read input now given bytes (rw says.0 at is)) says.1

  -- what is refused of a beginning, whatever comes after, is refused of all
  at_any_time : (IsRefused : Fault → List ℕ → Type 0) (fault : Fault) (bytes : List ℕ) (ending : Ending)
      → now ≡ came bytes ending (unused (lent input)) → AtAnyTime IsRefused fault bytes ending
      → IsRefused fault input
  at_any_time IsRefused fault bytes AtEnd is says =
      subst (IsRefused fault) (lents.all_read input now given bytes is) says
  at_any_time IsRefused fault bytes Open is says =
      let front = lents.part_read input now given bytes is in
      subst (IsRefused fault)
      (ap (λ (bs : List ℕ). bs ++ drop (length bytes) input) front ∙ take-append-drop (length bytes) input)
      (says (drop (length bytes) input))
  at_any_time IsRefused fault bytes Broken is says = absurd says

  -- what a refutation is refused for, it is refused for at its end
  refutation : (request : Reach) (c : Circuit) (fault : Fault) (bytes : List ℕ) (ending : Ending)
      → now ≡ came bytes ending (unused (lent input)) → IsRefutationRefused request c fault bytes ending
      → IsRefutationRefused request c fault input AtEnd
  refutation request c fault bytes AtEnd is says =
      subst (λ (bs : List ℕ). IsRefutationRefused request c fault bs AtEnd)
      (lents.all_read input now given bytes is) says
  refutation request c fault bytes Open is (d, refuted, clauses, are, why) =
      let front = lents.part_read input now given bytes is in
      let format = format_of request.lrat in (
        d,
        refuted,
        clauses,
        are,
        subst (λ (bs : List ℕ). IsRefusedWhere format clauses (literals_of d) fault bs AtEnd)
            (ap (λ (bs : List ℕ). bs ++ drop (length bytes) input) front ∙ take-append-drop (length bytes) input)
            (refused_behind format clauses (literals_of d) fault bytes (drop (length bytes) input) why),
      )
  refutation request c fault bytes Broken is (d, refuted, clauses, are, inl why) = absurd why.0
  refutation request c fault bytes Broken is (d, refuted, clauses, are, inr why) = absurd (never_broken why.1)

  solved : (by : SolverFile) (request : Reach) (selected : Circuit) (fault : Fault) (bytes : List ℕ) (ending : Ending)
      → now ≡ came bytes ending (unused (lent input)) → IsSolvedRefused by request selected fault bytes ending
      → IsSolvedRefused by request selected fault input AtEnd
  solved wrote.Answer request selected fault bytes ending is says =
      at_any_time (IsReachRefused request selected) fault bytes ending is says
  solved wrote.Refutation request selected fault bytes ending is says =
      refutation request selected fault bytes ending is says

  all_refused : (reading : Reading) (fault : Fault) (bytes : List ℕ) (ending : Ending)
      → now ≡ came bytes ending (unused (lent input)) → ending ≡ AtEnd → Refuses reading fault bytes ending
      → Refuses reading fault input AtEnd
  all_refused reading fault bytes ending is ends says =
      subst (λ bs. Refuses reading fault bs AtEnd) (lents.all_read input now given bytes (rw ends at is))
      (subst (λ e. Refuses reading fault bytes e) ends says)

  -- so it is with each reading
  pub refused : (reading : Reading) (fault : Fault) (bytes : List ℕ) (ending : Ending)
      → now ≡ came bytes ending (unused (lent input)) → Refuses reading fault bytes ending
      → Refuses reading fault input AtEnd
  refused (readings.Solved request selected) fault bytes ending is says =
      solved request.wrote request selected fault bytes ending is says
  refused (readings.Never request strengthened) fault bytes ending is says =
      refutation (over_one_frame request) strengthened fault bytes ending is says
  refused (readings.ToAig request) fault bytes ending is says =
      all_refused (readings.ToAig request) fault bytes ending is says.0 says
  refused (readings.Unroll request) fault bytes ending is says =
      all_refused (readings.Unroll request) fault bytes ending is says.0 says
  refused (readings.Reach request) fault bytes ending is says =
      all_refused (readings.Reach request) fault bytes ending is says.0 says
  refused (readings.Invariant request) fault bytes ending is says =
      all_refused (readings.Invariant request) fault bytes ending is says.0 says
  refused (readings.Clauses request selected) fault bytes ending is says =
      all_refused (readings.Clauses request selected) fault bytes ending is says.0 says
  refused (readings.Strengthen request selected) fault bytes ending is says =
      all_refused (readings.Strengthen request selected) fault bytes ending is says.0 says
  refused (readings.First request) fault bytes ending is says =
      all_refused (readings.First request) fault bytes ending is says.0 says
  refused (readings.Second request first) fault bytes ending is says =
      all_refused (readings.Second request first) fault bytes ending is says.0 says
  refused (readings.Sim request) fault bytes ending is says =
      all_refused (readings.Sim request) fault bytes ending is says.0 says
  refused (readings.Info request) fault bytes ending is says =
      all_refused (readings.Info request) fault bytes ending is says.0 says
  refused (readings.Select request) fault bytes ending is says =
      all_refused (readings.Select request) fault bytes ending is says.0 says
  refused (readings.ToDot request) fault bytes ending is says =
      all_refused (readings.ToDot request) fault bytes ending is says.0 says

  pub batched : (c : Circuit) (columns : Columns) (r : Result (Unit {0}) Stopped) (origin : Origin)
      (sink_now : History)
      → Transferred (BatchSays c columns r) (unused (lent input)) now (unused origin) sink_now
      → OnOk r ((first_bad_line c input true ≡ None) × IsTraceText c columns input true sink_now.bytes)
  batched c columns (Ok done) origin sink_now transferred =
      let sent = transferred.says in
      let says = sent.says in
      let read = lents.all_read input now given transferred.bytes (rw says.0 at transferred.came) in
      let text : sink_now.bytes ≡ sent.text = ap (λ (p : History). p.bytes) (rw says.1 at sent.sent) in
      rw text (subst (λ bytes. (first_bad_line c bytes true ≡ None) × IsTraceText c columns bytes true sent.text) read
      (says.2.first, says.2.is_text))
  batched c columns (Err fault) origin sink_now transferred = tt

  pub not_batched : (c : Circuit) (columns : Columns) (r : Result (Unit {0}) Stopped) (sink sink_now : History)
      → Transferred (BatchSays c columns r) (unused (lent input)) now sink sink_now
      → IfErr r (StopsInMemory (IsBadStimulus c input))
  not_batched c columns (Ok done) sink sink_now transferred = tt
  not_batched c columns (Err (stops.Refused fault)) sink sink_now transferred =
      let ((line, told, unbroken, first), none) = transferred.says.says in (
        line,
        told,
        lents.bad_line input now given c transferred.bytes transferred.ending line unbroken transferred.came first,
      )
  not_batched c columns (Err stopped) sink sink_now transferred = tt
