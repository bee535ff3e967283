-- What the answer of judging a witness file of either kind says (this project's profile).
use Rattle.std.specs.Prelude.{◌≡◌, ◌⊎◌, List, ℕ, [], true, false, None, Some, Result, Ok, Err}
use Rattle.aig_io.specs.Runs.{AtEnd, Broken, Ending, IsUnbroken, Open, is_at_end}
use Rattle.aig_circuit.specs.declared.circuit.Circuit.{Circuit}
use Rattle.aig_fault.specs.declared.fault.Fault.{Fault}
use Rattle.aig_fault.specs.declared.stopped.Stopped.{Stopped}
use Rattle.aig_fault.specs.declared.stopped.Stopped.TheVariants as stops
use Rattle.aig_lasso.specs.Goaled.{HasTooManyGoals}
use Rattle.aig_lasso.specs.Lasso.{IsLassoVerdict}
use Rattle.aig_verdicts.specs.Comments.{uncommented}
use Rattle.aig_verdicts.specs.Kinds.{SaysJustice, first_bad_file_line}
use Rattle.aig_verdicts.specs.declared.verdict.WitnessVerdict.{WitnessVerdict}
use Rattle.aig_verdicts.specs.declared.verdict.WitnessVerdict.TheVariants.{BadState, Justice}
use Rattle.aig_witness.specs.Confirming.{bad_witness}
use Rattle.aig_witness.specs.Witness.{Claim, IsVerdict, SaysClaim}

-- the bytes, without comments, are a witness file of the kind that the verdict is of, and this is claimed
abbrev pub SaysFor : Circuit → WitnessVerdict → List ℕ → Claim → Type 0
SaysFor c (BadState verdict) bytes claim = SaysClaim c (uncommented bytes) claim
SaysFor c (Justice verdict) bytes claim = SaysJustice c (uncommented bytes) claim

-- the verdict on that
abbrev pub IsVerdictFor : Circuit → Claim → WitnessVerdict → Type 0
IsVerdictFor c claim (BadState verdict) = IsVerdict c claim verdict
IsVerdictFor c claim (Justice verdict) = IsLassoVerdict c claim verdict

-- no line of the file is wrong, and this is the verdict on what it claims
pub record IsJudged (c : Circuit) (verdict : WitnessVerdict) (bytes : List ℕ) : Type 0 where
  pub claim : Claim
  pub none_bad : first_bad_file_line c bytes true ≡ None
  pub says : SaysFor c verdict bytes claim
  pub is_verdict : IsVerdictFor c claim verdict

-- the file is of a justice property, and memory was refused to hold or to judge what it claims
abbrev pub HasNoMemory : Circuit → List ℕ → Ending → Type 0
HasNoMemory c bytes ending = (ending ≡ AtEnd) × (claim : Claim) × SaysJustice c (uncommented bytes) claim

-- the line of this number is the first that is wrong or missing
abbrev pub HasBadLine : Circuit → Fault → List ℕ → Ending → Type 0
HasBadLine c fault bytes ending =
    (number : ℕ) × (fault ≡ bad_witness number) × IsUnbroken ending
    × (first_bad_file_line c bytes (is_at_end ending) ≡ Some number)

-- the file is of a justice property that has more goals than a circuit may have bad states
abbrev pub HasLargeProperty : Circuit → Fault → List ℕ → Ending → Type 0
HasLargeProperty c fault bytes ending =
    (ending ≡ AtEnd) × (claim : Claim) × SaysJustice c (uncommented bytes) claim × HasTooManyGoals claim.property c fault

-- the whole file has no verdict for this reason
abbrev pub IsUnjudged : Circuit → List ℕ → Fault → Type 0
IsUnjudged c bytes fault = HasBadLine c fault bytes AtEnd ⊎ HasLargeProperty c fault bytes AtEnd

-- All came and was judged: then no line is wrong. Or memory was refused, before the source was called or at the end; a
-- line is wrong, or the property is too large; or the source failed, and no whole line that came is wrong.
abbrev pub WitnessSays : Circuit → Result WitnessVerdict Stopped → List ℕ → Ending → Type 0
WitnessSays c (Ok verdict) bytes ending = (ending ≡ AtEnd) × IsJudged c verdict bytes
WitnessSays c (Err stops.OutOfMemory) bytes ending = ((bytes ≡ []) × (ending ≡ Open)) ⊎ HasNoMemory c bytes ending
WitnessSays c (Err (stops.Refused fault)) bytes ending =
    HasBadLine c fault bytes ending ⊎ HasLargeProperty c fault bytes ending
WitnessSays c (Err stops.ReadFailed) bytes ending = (ending ≡ Broken) × (first_bad_file_line c bytes false ≡ None)
WitnessSays c (Err stops.WriteFailed) bytes ending = ⊥
