-- What the answer of judging a witness file says (this project's profile).
use Rattle.std.specs.Prelude.{◌≡◌, List, ℕ, [], true, false, None, Some, Result, Ok, Err}
use Rattle.aig_io.specs.Runs.{AtEnd, Broken, Ending, IsUnbroken, Open, is_at_end}
use Rattle.aig_circuit.specs.declared.circuit.Circuit.{Circuit}
use Rattle.aig_fault.specs.Stopping.{fault_at}
use Rattle.aig_fault.specs.declared.fault.Fault.{Fault}
use Rattle.aig_fault.specs.declared.fault.Place.TheVariants.{Line}
use Rattle.aig_fault.specs.declared.kind.Kind.TheVariants.{BadWitness}
use Rattle.aig_fault.specs.declared.stopped.Stopped.{Stopped}
use Rattle.aig_fault.specs.declared.stopped.Stopped.TheVariants as stops
use Rattle.aig_witness.specs.declared.verdict.Verdict.{Verdict}
use Rattle.aig_witness.specs.Witness.{Claim, IsVerdict, SaysClaim, first_bad_witness_line}

-- the line of this number is not the one that is due in a witness file
abbrev pub bad_witness : ℕ → Fault
bad_witness number = fault_at BadWitness (Line number) 0

-- no line of the file is wrong, and this is the verdict on what it claims
pub record Judged (c : Circuit) (verdict : Verdict) (bytes : List ℕ) : Type 0 where
  pub claim : Claim
  pub none_bad : first_bad_witness_line c bytes true ≡ None
  pub says : SaysClaim c bytes claim
  pub is_verdict : IsVerdict c claim verdict

-- All came and was judged. Or memory was refused before the source was called; the line of this number is the first
-- wrong one of what came; or the source failed, and no whole line that came is wrong.
abbrev pub ConfirmSays : Circuit → Result Verdict Stopped → List ℕ → Ending → Type 0
ConfirmSays c (Ok verdict) bytes ending = (ending ≡ AtEnd) × Judged c verdict bytes
ConfirmSays c (Err stops.OutOfMemory) bytes ending = (bytes ≡ []) × (ending ≡ Open)
ConfirmSays c (Err (stops.Refused fault)) bytes ending =
    (number : ℕ) × (fault ≡ bad_witness number) × IsUnbroken ending
    × (first_bad_witness_line c bytes (is_at_end ending) ≡ Some number)
ConfirmSays c (Err stops.ReadFailed) bytes ending = (ending ≡ Broken) × (first_bad_witness_line c bytes false ≡ None)
ConfirmSays c (Err stops.WriteFailed) bytes ending = ⊥
