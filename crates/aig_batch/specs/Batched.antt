-- What the answer of a simulation says that reads the whole stimulus before it sends anything.
use Rattle.std.specs.Prelude.{◌≡◌, ℕ, List, true, false, None, Some, Result, Ok, Err}
use Rattle.aig_io.specs.Runs.{All, AtEnd, Broken, Delivery, Ending, IsCut, IsUnbroken, NotSent, is_at_end}
use Rattle.aig_circuit.specs.declared.circuit.Circuit.{Circuit}
use Rattle.aig_fault.specs.declared.stopped.Stopped.{Stopped}
use Rattle.aig_fault.specs.declared.stopped.Stopped.TheVariants.{OutOfMemory, ReadFailed, Refused, WriteFailed}
use Rattle.aig_step.specs.declared.trace.Columns.{Columns}
use Rattle.aig_step.specs.Outcome.{IsTraceUpTo, bad_stimulus, first_bad_line}

-- Why a stimulus was not collected: memory was refused; the line of this number is the first bad one of what came; or
-- the source failed, and no whole line that came is bad.
abbrev pub NotCollected : Circuit → Stopped → List ℕ → Ending → Type 0
NotCollected c OutOfMemory bytes ending = IsUnbroken ending
NotCollected c (Refused fault) bytes ending =
    (number : ℕ) × (fault ≡ bad_stimulus number) × IsUnbroken ending
    × (first_bad_line c bytes (is_at_end ending) ≡ Some number)
NotCollected c ReadFailed bytes ending = (ending ≡ Broken) × (first_bad_line c bytes false ≡ None)
NotCollected c WriteFailed bytes ending = ⊥

-- All came, no line is bad, and its trace was taken, or the sink failed on the way; or the stimulus was not collected,
-- and nothing was sent.
abbrev pub BatchSays : Circuit → Columns → Result (Unit {0}) Stopped → List ℕ → Ending → List ℕ → Delivery → Type 0
BatchSays c columns (Ok done) bytes ending text delivery =
    (ending ≡ AtEnd) × (delivery ≡ All) × IsTraceUpTo c columns bytes true None text
BatchSays c columns (Err WriteFailed) bytes ending text delivery =
    (ending ≡ AtEnd) × IsCut delivery × IsTraceUpTo c columns bytes true None text
BatchSays c columns (Err stopped) bytes ending text delivery =
    NotCollected c stopped bytes ending × (delivery ≡ NotSent)
