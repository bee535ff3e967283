-- What the answer of a simulation says, which sends the text of what came before it reads on.
use Rattle.std.specs.Prelude.{◌≡◌, ℕ, List, [], Bool, true, false, Option, None, Some, Result, Ok, Err, length}
use Rattle.aig_io.specs.Runs.{All, AtEnd, Broken, Delivery, Ending, IsCut, IsUnbroken, NotSent, Open, is_at_end}
use Rattle.aig_circuit.specs.declared.circuit.Circuit.{Circuit}
use Rattle.aig_fault.specs.Stopping.{fault_at}
use Rattle.aig_fault.specs.declared.fault.Fault.{Fault}
use Rattle.aig_fault.specs.declared.fault.Place.TheVariants.{Line}
use Rattle.aig_fault.specs.declared.kind.Kind.TheVariants.{BadStimulus}
use Rattle.aig_fault.specs.declared.stopped.Stopped.{Stopped}
use Rattle.aig_fault.specs.declared.stopped.Stopped.TheVariants.{OutOfMemory, ReadFailed, Refused, WriteFailed}
use Rattle.aig_step.specs.declared.trace.Columns.{Columns}
use Rattle.aig_step.specs.Stimulus.{stimulus}
use Rattle.aig_step.specs.TraceText.{IsTraceText}

-- the number of the first bad line, where there is one
abbrev pub first_bad_line : Circuit → List ℕ → Bool → Option ℕ
first_bad_line c bytes ended = (stimulus (length c.inputs) bytes ended).bad

-- the line of this number is no line of a stimulus
abbrev pub bad_stimulus : ℕ → Fault
bad_stimulus number = fault_at BadStimulus (Line number) 0

-- This is the trace text of what came, up to the line of this number, the first bad one; or there is none.
pub record IsTraceUpTo (c : Circuit) (columns : Columns) (bytes : List ℕ) (ended : Bool) (bad : Option ℕ)
    (text : List ℕ) : Type 0 where
  pub first : first_bad_line c bytes ended ≡ bad
  pub is_text : IsTraceText c columns bytes ended text

-- All came, no line is bad, and its trace was taken. Or memory was refused before a device was called; the trace was
-- taken of what came, which has a bad line, or after which the source failed; or the sink failed on the way.
abbrev pub TraceSays : Circuit → Columns → Result (Unit {0}) Stopped → List ℕ → Ending → List ℕ → Delivery → Type 0
TraceSays c columns (Ok done) bytes ending text delivery =
    (ending ≡ AtEnd) × (delivery ≡ All) × IsTraceUpTo c columns bytes true None text
TraceSays c columns (Err OutOfMemory) bytes ending text delivery =
    (bytes ≡ []) × (ending ≡ Open) × (delivery ≡ NotSent)
TraceSays c columns (Err (Refused fault)) bytes ending text delivery =
    (number : ℕ) × (fault ≡ bad_stimulus number) × IsUnbroken ending × (delivery ≡ All)
    × IsTraceUpTo c columns bytes (is_at_end ending) (Some number) text
TraceSays c columns (Err ReadFailed) bytes ending text delivery =
    (ending ≡ Broken) × (delivery ≡ All) × IsTraceUpTo c columns bytes false None text
TraceSays c columns (Err WriteFailed) bytes ending text delivery =
    IsUnbroken ending × IsCut delivery × IsTraceText c columns bytes (is_at_end ending) text
