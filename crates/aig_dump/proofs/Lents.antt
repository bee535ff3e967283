-- What a source over bytes in memory gave, once it was read.
use Rattle.std.proofs.Common.{◌≡◌, ◌⊎◌, ◌∙◌, ℕ, List, Bool, false, OnOk, ap, IfErr, IfOk, inl, inr, Result}
use Rattle.std.proofs.Common.{Ok, Err, refl, subst, arith, None, Some, length, take, true}
use Rattle.aig_io.specs.Devices.{History, Origin, unused}
use Rattle.aig_io.specs.Lent.{HasGiven, lent}
use Rattle.aig_io.specs.Runs.{All, AtEnd, Broken, Delivery, Ending, IsUnbroken, Open, Read, Transferred, came}
use Rattle.aig_io.specs.Runs.{is_at_end}
use Rattle.aig_circuit.specs.declared.circuit.Circuit.{Circuit}
use Rattle.aig_fault.specs.declared.fault.Fault.{Fault}
use Rattle.aig_fault.specs.declared.stopped.Stopped.{Stopped}
use Rattle.aig_fault.specs.declared.stopped.Stopped.TheVariants as stops
use Rattle.aig_step.specs.declared.trace.Columns.TheVariants.{Properties}
use Rattle.aig_step.specs.Outcome.{IsTraceUpTo, first_bad_line}
use Rattle.aig_wave.specs.Wave.{wave_text}
use Rattle.aig_verdicts.specs.Judged.{HasBadLine, HasLargeProperty, IsJudged, IsUnjudged, WitnessSays}
use Rattle.aig_verdicts.specs.Kinds.{first_bad_file_line}
use Rattle.aig_verdicts.specs.declared.verdict.WitnessVerdict.{WitnessVerdict}
use Rattle.aig_dump.specs.Dumped.{DumpSays, TraceSaysAs}
use Rattle.aig_dump.specs.InMemory.{IsBadStimulus, IsDumpFor, StopsInMemory}
use Rattle.aig_dump.proofs.Behind.{bad_line_stays, wrong_line_stays}

-- a simulation that succeeded read all, found no bad line, and traced all
all_traced : (batch : Bool) (c : Circuit) (done : Unit {0}) (bytes : List ℕ) (ending : Ending) (trace : List ℕ)
    (delivery : Delivery) → TraceSaysAs batch c Properties (Ok done) bytes ending trace delivery
    → (ending ≡ AtEnd) × (delivery ≡ All) × IsTraceUpTo c Properties bytes true None trace
all_traced true c done bytes ending trace delivery says = says
all_traced false c done bytes ending trace delivery says = says

module _ (input : List ℕ) (now : History) (given : HasGiven now) where
  -- what was read to its end is all of the input, and else a beginning of it
  pub all_read : (bytes : List ℕ) → now ≡ came bytes AtEnd (unused (lent input)) → bytes ≡ input
  all_read bytes is =
      let all = rw is at given.whole in
      all input refl (omega arith)

  pub part_read : (bytes : List ℕ) → now ≡ came bytes Open (unused (lent input)) → bytes ≡ take (length bytes) input
  part_read bytes is =
      let front = rw is at given.front in
      front input refl

  -- the first bad line of what was read is that of all of the input
  pub bad_line : (c : Circuit) (bytes : List ℕ) (ending : Ending) (k : ℕ) → IsUnbroken ending
      → now ≡ came bytes ending (unused (lent input)) → first_bad_line c bytes (is_at_end ending) ≡ Some k
      → first_bad_line c input true ≡ Some k
  bad_line c bytes AtEnd k whole is first = subst (λ bs. first_bad_line c bs true ≡ Some k) (all_read bytes is) first
  bad_line c bytes Open k whole is first =
      bad_line_stays c (length bytes) k input
      (subst (λ bs. first_bad_line c bs false ≡ Some k) (part_read bytes is) first)
  bad_line c bytes Broken k whole is first = absurd whole

  -- the same of a witness file
  wrong_line : (c : Circuit) (bytes : List ℕ) (ending : Ending) (k : ℕ) → IsUnbroken ending
      → now ≡ came bytes ending (unused (lent input)) → first_bad_file_line c bytes (is_at_end ending) ≡ Some k
      → first_bad_file_line c input true ≡ Some k
  wrong_line c bytes AtEnd k whole is first =
      subst (λ bs. first_bad_file_line c bs true ≡ Some k) (all_read bytes is) first
  wrong_line c bytes Open k whole is first =
      wrong_line_stays c (length bytes) k input
      (subst (λ bs. first_bad_file_line c bs false ≡ Some k) (part_read bytes is) first)
  wrong_line c bytes Broken k whole is first = absurd whole

  pub dumped : (batch : Bool) (c : Circuit) (r : Result (Unit {0}) Stopped) (origin : Origin) (sink_now : History)
      → Transferred (DumpSays batch c r) (unused (lent input)) now (unused origin) sink_now
      → OnOk r ((first_bad_line c input true ≡ None) × IsDumpFor c input sink_now.bytes)
  dumped batch c (Ok done) origin sink_now ran =
      let sent = ran.says in
      let d = sent.says.1 in
      let says = all_traced batch c done ran.bytes ran.ending d.trace d.delivery d.says in
      let read = all_read ran.bytes (rw says.0 at ran.came) in
      let text : sink_now.bytes ≡ sent.text = ap (λ (p : History). p.bytes) (rw sent.says.0 at sent.sent) in
      let is : sent.text ≡ wave_text c d.trace true = rw says.1 at d.is_dump in
      subst (λ (bytes : List ℕ). (first_bad_line c bytes true ≡ None) × IsDumpFor c bytes sink_now.bytes) read
      (says.2.first, (d.trace, says.2.is_text, text ∙ is))
  dumped batch c (Err fault) origin sink_now ran = tt

  bad_stimulus : (batch : Bool) (c : Circuit) (fault : Fault) (bytes : List ℕ) (ending : Ending) (trace : List ℕ)
      (delivery : Delivery)
      → TraceSaysAs batch c Properties (Err (stops.Refused fault)) bytes ending trace delivery
      → now ≡ came bytes ending (unused (lent input)) → IsBadStimulus c input fault
  bad_stimulus true c fault bytes ending trace delivery ((line, told, whole, first), none) is =
      (line, told, bad_line c bytes ending line whole is first)
  bad_stimulus false c fault bytes ending trace delivery (line, told, whole, all, traced) is =
      (line, told, bad_line c bytes ending line whole is traced.first)

  pub not_dumped : (batch : Bool) (c : Circuit) (r : Result (Unit {0}) Stopped) (sink sink_now : History)
      → Transferred (DumpSays batch c r) (unused (lent input)) now sink sink_now
      → IfErr r (StopsInMemory (IsBadStimulus c input))
  not_dumped batch c (Ok done) sink sink_now ran = tt
  not_dumped batch c (Err (stops.Refused fault)) sink sink_now ran =
      let d = ran.says.says.1 in
      bad_stimulus batch c fault ran.bytes ran.ending d.trace d.delivery d.says ran.came
  not_dumped batch c (Err stopped) sink sink_now ran = tt

  unjudged : (c : Circuit) (fault : Fault) (bytes : List ℕ) (ending : Ending) → now ≡ came bytes ending (unused (lent input))
      → HasBadLine c fault bytes ending ⊎ HasLargeProperty c fault bytes ending → IsUnjudged c input fault
  unjudged c fault bytes ending is (inl (line, told, whole, first)) =
      inl (line, told, tt, wrong_line c bytes ending line whole is first)
  unjudged c fault bytes ending is (inr large) =
      inr (subst (λ bs. HasLargeProperty c fault bs AtEnd) (all_read bytes (rw large.0 at is)) (refl, large.1, large.2, large.3))

  pub judged : (c : Circuit) (r : Result WitnessVerdict Stopped) → Read (WitnessSays c r) (unused (lent input)) now
      → IfOk r (λ verdict. IsJudged c verdict input)
  judged c (Ok verdict) read =
      let bytes = all_read read.bytes (rw read.says.0 at read.came) in
      subst (λ bs. IsJudged c verdict bs) bytes read.says.1
  judged c (Err fault) read = tt

  pub not_judged : (c : Circuit) (r : Result WitnessVerdict Stopped) → Read (WitnessSays c r) (unused (lent input)) now
      → IfErr r (StopsInMemory (IsUnjudged c input))
  not_judged c (Ok verdict) read = tt
  not_judged c (Err (stops.Refused fault)) read = unjudged c fault read.bytes read.ending read.came read.says
  not_judged c (Err stopped) read = tt
