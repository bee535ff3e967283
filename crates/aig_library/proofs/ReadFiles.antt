-- Why a file in memory is not read.
use Rattle.std.proofs.Common.{List, ℕ, Result, Ok, Err, IfErr, inl, inr}
use Rattle.aig_circuit.specs.declared.circuit.Circuit.{Circuit}
use Rattle.aig_commands.specs.File.{first_fault}
use Rattle.aig_commands.specs.Reading.{IsUnreadable}
use Rattle.aig_fault.specs.declared.stopped.Stopped.{Stopped}
use Rattle.aig_fault.specs.declared.stopped.Stopped.TheVariants as stops
use Rattle.aig_text.specs.Reading.{IsFirstFault}
use Rattle.aig_library.specs.Outcome.{StopsInMemory}

-- a file in memory is read, or is refused with its first fault
pub file_stops : (limit : ℕ) (bytes : List ℕ) (read : Result Circuit Stopped)
    → IfErr read (λ e. IsFirstFault e (first_fault limit bytes))
    → IfErr read (StopsInMemory (λ fault. IsUnreadable limit fault bytes))
file_stops limit bytes (Ok found) why = tt
file_stops limit bytes (Err stops.OutOfMemory) why = tt
file_stops limit bytes (Err stops.ReadFailed) why = tt
file_stops limit bytes (Err stops.WriteFailed) why = tt
file_stops limit bytes (Err (stops.Refused fault)) (inl memory) = cc
file_stops limit bytes (Err (stops.Refused fault)) (inr is) = is
