-- The dump of the run that a witness file claims (this project's profile). All bytes of the file are read before it is
-- judged, and all of the dump is made before anything is sent.
use Rattle.std.specs.Prelude.{◌≡◌, ◌⊎◌, ◌++◌, ℕ, List, [], ◌∷◌, true, codes, decimal, map}
use Rattle.aig_io.specs.Runs.{AtEnd, Broken, Ending, IsUnbroken}
use Rattle.aig_circuit.specs.declared.circuit.Circuit.{Circuit}
use Rattle.aig_circuit.specs.declared.circuit.Latch.{Latch}
use Rattle.aig_circuit.specs.declared.circuit.Reset.{Reset}
use Rattle.aig_circuit.specs.declared.circuit.Reset.TheVariants as resets
use Rattle.aig_circuit.specs.declared.value.Val.{Val}
use Rattle.aig_circuit.specs.declared.value.Val.TheVariants.{Zero, One, X}
use Rattle.aig_meaning.specs.Meaning.{Row}
use Rattle.aig_meaning.specs.Trace.{IsTrace}
use Rattle.aig_fault.specs.declared.fault.Fault.{Fault}
use Rattle.aig_fault.specs.declared.stopped.Stopped.{Stopped}
use Rattle.aig_fault.specs.declared.stopped.Stopped.TheVariants as stops
use Rattle.aig_step.specs.declared.trace.Columns.TheVariants.{Properties}
use Rattle.aig_step.specs.TraceText.{run_text}
use Rattle.aig_wave.specs.Wave.{wave_text}
use Rattle.aig_witness.specs.declared.verdict.Verdict.TheVariants.{Confirmed, NotConfirmed}
use Rattle.aig_witness.specs.Witness.{Claim}
use Rattle.aig_lasso.specs.declared.verdict.LassoVerdict.TheVariants as lassos
use Rattle.aig_verdicts.specs.Judged.{IsJudged, IsUnjudged}
use Rattle.aig_verdicts.specs.declared.verdict.WitnessVerdict.{WitnessVerdict}
use Rattle.aig_verdicts.specs.declared.verdict.WitnessVerdict.TheVariants.{BadState, Justice}
use Rattle.aig_claims.specs.LoopMark.{HasNoVariable, marked, with_loop_mark}

-- the reset of a latch that starts at this value
abbrev pub reset_to : Val → Reset
reset_to Zero = resets.Zero
reset_to One = resets.One
reset_to X = resets.Uninit

-- latches with these resets, as far as there are resets
abbrev pub with_resets : List Reset → List Latch → List Latch
with_resets [] ls = ls
with_resets (r ∷ rs) [] = []
with_resets (r ∷ rs) (l ∷ ls) = record l { reset = r } ∷ with_resets rs ls

-- the circuit that starts in this state
abbrev pub started_in : List Val → Circuit → Circuit
started_in first c = record c { latches = with_resets (map reset_to first) c.latches }

-- The dump of the run that is claimed: that of the trace of its steps from its first state, which is what is shown
-- before the first step.
pub record IsRunDump (c : Circuit) (claim : Claim) (dump : List ℕ) : Type 0 where
  pub rows : List Row
  pub trace : IsTrace c claim.first claim.steps rows
  pub is_dump : dump ≡ wave_text (started_in claim.first c) (run_text Properties rows) true

-- the dump of a run with this verdict: of a lasso it has the mark of the loop
abbrev pub IsShownRun : Circuit → Claim → WitnessVerdict → List ℕ → Type 0
IsShownRun c claim (Justice (lassos.Confirmed start)) dump = IsRunDump (with_loop_mark c) (marked start claim) dump
IsShownRun c claim (Justice lassos.NotConfirmed) dump = IsRunDump c claim dump
IsShownRun c claim (BadState verdict) dump = IsRunDump c claim dump

-- the verdict as a comment of a dump
abbrev pub comment_line : WitnessVerdict → List ℕ
comment_line (BadState (Confirmed step)) = codes "$comment confirmed " ++ (decimal step ++ codes " $end\n")
comment_line (BadState NotConfirmed) = codes "$comment not confirmed $end\n"
comment_line (Justice (lassos.Confirmed start)) = codes "$comment confirmed " ++ (decimal start ++ codes " $end\n")
comment_line (Justice lassos.NotConfirmed) = codes "$comment not confirmed $end\n"

-- What is written where a dump is asked for: the verdict on what is claimed, and the dump of the run.
pub record IsWitnessDump (c : Circuit) (claim : Claim) (verdict : WitnessVerdict) (text : List ℕ) : Type 0 where
  pub run : List ℕ
  pub is_run : IsShownRun c claim verdict run
  pub is_text : text ≡ comment_line verdict ++ run

-- the file was judged, and this is the dump for it
pub record JudgedWith (c : Circuit) (verdict : WitnessVerdict) (bytes text : List ℕ) : Type 0 where
  pub judged : IsJudged c verdict bytes
  pub is_dump : IsWitnessDump c judged.claim verdict text

-- the file is of a lasso, and no variable is left for the mark of its loop
abbrev pub HasNoMark : Circuit → List ℕ → Fault → Type 0
HasNoMark c bytes fault =
    HasNoVariable c fault × ((start : ℕ) × IsJudged c (Justice (lassos.Confirmed start)) bytes)

-- the whole file has no dump for this reason: it has no verdict, or its loop no mark
abbrev pub IsUndumped : Circuit → List ℕ → Fault → Type 0
IsUndumped c bytes fault = IsUnjudged c bytes fault ⊎ HasNoMark c bytes fault

-- Why there is no dump: memory was refused, while bytes came or after their end; the source failed; or all came, and
-- have none.
abbrev pub HasNoDump : Circuit → Stopped → List ℕ → Ending → Type 0
HasNoDump c stops.OutOfMemory bytes ending = IsUnbroken ending
HasNoDump c (stops.Refused fault) bytes ending = (ending ≡ AtEnd) × IsUndumped c bytes fault
HasNoDump c stops.ReadFailed bytes ending = ending ≡ Broken
HasNoDump c stops.WriteFailed bytes ending = ⊥
