-- What came of judging a witness file that was read to its end, and of making the dump of its run.
use Rattle.std.proofs.Common.{◌≡◌, ℕ, List, IfErr, IfOk, MatchResult, Result, Ok, Err, None, Some, ap, refl, subst, sym}
use Rattle.aig_io.specs.Devices.{History, gave_all}
use Rattle.aig_io.specs.Runs.{AtEnd, Read}
use Rattle.aig_circuit.specs.declared.circuit.Circuit.{Circuit}
use Rattle.aig_fault.specs.Stopping.{StopsFor}
use Rattle.aig_fault.specs.declared.stopped.Stopped.{Stopped}
use Rattle.aig_fault.specs.declared.stopped.Stopped.TheVariants as stops
use Rattle.aig_claims.specs.LoopMark.{HasNoVariable, marked, with_loop_mark}
use Rattle.aig_claims.specs.RunDump.{HasNoDump, IsRunDump, IsShownRun, IsUndumped}
use Rattle.aig_dump.specs.Parts.Showing.{LacksMark, loop_start}
use Rattle.aig_lasso.specs.declared.verdict.LassoVerdict.TheVariants.{Confirmed, NotConfirmed}
use Rattle.aig_verdicts.specs.declared.verdict.WitnessVerdict.TheVariants.{BadState, Justice}
use Rattle.aig_witness.specs.Witness.{Claim}
use Rattle.aig_dump.specs.InMemory.{JudgedRun}
use Rattle.aig_verdicts.specs.declared.verdict.WitnessVerdict.{WitnessVerdict}

module _ (c : Circuit) (witness witness_now : History) where
  pub judged_run : {T : Type 0} (verdict : T → WitnessVerdict) (run : T → List ℕ) (bytes : List ℕ) (r : Result T Stopped)
      → witness_now ≡ gave_all bytes witness → IfOk r (λ made. JudgedRun c (verdict made) bytes (run made))
      → IfErr r (StopsFor (IsUndumped c bytes))
      → Read (λ bytes ending. MatchResult r (λ made. (ending ≡ AtEnd) × JudgedRun c (verdict made) bytes (run made))
      (λ stopped. HasNoDump c stopped bytes ending)) witness witness_now
  judged_run verdict run bytes (Ok made) gave judged none =
      record { bytes = bytes; ending = AtEnd; says = (refl, judged); came = gave }
  judged_run verdict run bytes (Err (stops.Refused fault)) gave none why =
      record { bytes = bytes; ending = AtEnd; says = (refl, why); came = gave }
  judged_run verdict run bytes (Err stops.OutOfMemory) gave none refused =
      record { bytes = bytes; ending = AtEnd; says = tt; came = gave }
  judged_run verdict run bytes (Err stops.ReadFailed) gave none never = absurd never
  judged_run verdict run bytes (Err stops.WriteFailed) gave none never = absurd never

-- what is shown of a run with this verdict
pub plain_shown : (c : Circuit) (claim : Claim) (verdict : WitnessVerdict) (run : List ℕ) → loop_start verdict ≡ None
    → IsRunDump c claim run → IsShownRun c claim verdict run
plain_shown c claim (BadState v) run none is = is
plain_shown c claim (Justice (Confirmed start)) run none is = cc
plain_shown c claim (Justice NotConfirmed) run none is = is

one_marked : (c : Circuit) (claim : Claim) (verdict : WitnessVerdict) (start : ℕ) (run : List ℕ)
    → loop_start verdict ≡ Some start → IsRunDump (with_loop_mark c) (marked start claim) run
    → IsShownRun c claim verdict run
one_marked c claim (BadState v) start run some is = cc
one_marked c claim (Justice (Confirmed first)) start run some is =
    let same : first ≡ start = cc in
    subst (λ (n : ℕ). IsRunDump (with_loop_mark c) (marked n claim) run) (sym same) is
one_marked c claim (Justice NotConfirmed) start run some is = cc

pub marked_shown : {T : Type 0} (r : Result T Stopped) (run : T → List ℕ) (c : Circuit) (claim : Claim)
    (verdict : WitnessVerdict) (start : ℕ) → loop_start verdict ≡ Some start
    → IfOk r (λ made. IsRunDump (with_loop_mark c) (marked start claim) (run made))
    → IfOk r (λ made. IsShownRun c claim verdict (run made))
marked_shown (Ok made) run c claim verdict start some is = one_marked c claim verdict start (run made) some is
marked_shown (Err stopped) run c claim verdict start some is = tt

is_lasso : (verdict : WitnessVerdict) (start : ℕ) → loop_start verdict ≡ Some start
    → verdict ≡ Justice (Confirmed start)
is_lasso (BadState v) start some = cc
is_lasso (Justice (Confirmed first)) start some = let same : first ≡ start = cc in ap (λ n. Justice (Confirmed n)) same
is_lasso (Justice NotConfirmed) start some = cc

pub lacks_mark : {T : Type 0} (r : Result T Stopped) (c : Circuit) (verdict : WitnessVerdict) (start : ℕ)
    → loop_start verdict ≡ Some start → IfErr r (StopsFor (HasNoVariable c)) → IfErr r (StopsFor (LacksMark c verdict))
lacks_mark (Ok made) c verdict start some none = tt
lacks_mark (Err stops.OutOfMemory) c verdict start some none = tt
lacks_mark (Err (stops.Refused fault)) c verdict start some none = (none, (start, is_lasso verdict start some))
lacks_mark (Err stops.ReadFailed) c verdict start some never = absurd never
lacks_mark (Err stops.WriteFailed) c verdict start some never = absurd never
