-- What came of bytes that are all there: of a stimulus or of a witness file.
use Rattle.std.specs.Prelude.{◌≡◌, ℕ, List, true, Some, ⊤}
use Rattle.aig_circuit.specs.declared.circuit.Circuit.{Circuit}
use Rattle.aig_fault.specs.declared.fault.Fault.{Fault}
use Rattle.aig_fault.specs.declared.stopped.Stopped.{Stopped}
use Rattle.aig_fault.specs.declared.stopped.Stopped.TheVariants.{Refused}
use Rattle.aig_step.specs.declared.trace.Columns.TheVariants.{Properties}
use Rattle.aig_step.specs.Outcome.{bad_stimulus, first_bad_line}
use Rattle.aig_step.specs.TraceText.{IsTraceText}
use Rattle.aig_wave.specs.Wave.{wave_text}
use Rattle.aig_claims.specs.RunDump.{IsShownRun}
use Rattle.aig_verdicts.specs.Judged.{IsJudged}
use Rattle.aig_verdicts.specs.declared.verdict.WitnessVerdict.{WitnessVerdict}

-- This line of the stimulus is the first bad one.
abbrev pub IsBadStimulus : Circuit → (stimulus : List ℕ) → Fault → Type 0
IsBadStimulus c stimulus fault =
    (line : ℕ) × (fault ≡ bad_stimulus line) × (first_bad_line c stimulus true ≡ Some line)

-- these bytes are the dump of the trace of a whole stimulus
abbrev pub IsDumpFor : Circuit → (stimulus bytes : List ℕ) → Type 0
IsDumpFor c stimulus bytes =
    (trace : List ℕ) × IsTraceText c Properties stimulus true trace × (bytes ≡ wave_text c trace true)

-- a witness file was judged, and this is the dump of the run that it claims
abbrev pub JudgedRun : Circuit → WitnessVerdict → (witness run : List ℕ) → Type 0
JudgedRun c verdict witness run = (judged : IsJudged c verdict witness) × IsShownRun c judged.claim verdict run

-- The input has a fault of which this holds; or memory was refused, since no device in memory fails for another
-- reason.
abbrev pub StopsInMemory : (Fault → Type 0) → Stopped → Type 0
StopsInMemory Holds (Refused fault) = Holds fault
StopsInMemory Holds stopped = ⊤
