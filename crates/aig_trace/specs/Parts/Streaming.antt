-- What came of bytes and of the text for them.
use Rattle.std.specs.Prelude.{ℕ, List, Bool, false, true, None, Some, Result, Err, Ok, if◌then◌else◌}
use Rattle.aig_circuit.specs.declared.circuit.Circuit.{Circuit}
use Rattle.aig_lines.specs.Feeders.{Feeder}
use Rattle.aig_fault.specs.declared.stopped.Stopped.{Stopped}
use Rattle.aig_fault.specs.declared.stopped.Stopped.TheVariants.{Refused, WriteFailed}
use Rattle.aig_step.specs.declared.trace.Columns.{Columns}
use Rattle.aig_step.specs.Outcome.{IsTraceUpTo, bad_stimulus}
use Rattle.aig_trace.specs.Taken.{Took}

-- The text for these bytes was put, which are over or not, and which of their lines is the first bad one is known.
pub record IsTraced {W : Type 0} (H : W → W → List ℕ → Type 0) (c : Circuit) (columns : Columns) (bytes : List ℕ)
    (over : Bool) (from to : W) (f : Feeder) : Type 0 where
  pub text : List ℕ
  pub is_trace : IsTraceUpTo c columns bytes over (if f.refused then Some f.number else None) text
  pub put : Took H from to text

-- how lines end that were taken, where the text for them was not sent, or the line of a number is bad, or neither
abbrev pub ended_so : (failed good : Bool) → ℕ → Result (Unit {0}) Stopped
ended_so true good number = Err WriteFailed
ended_so false true number = Ok tt
ended_so false false number = Err (Refused (bad_stimulus number))
