-- What is found by a solver's answer (this project's profile). An answer has a value for each input of each frame, and
-- for each uninitialised latch before them; a value that it leaves out is 0. They are a run, and nothing else of the
-- answer is believed.
use Rattle.std.specs.Prelude.{◌≡◌, ◌≢◌, ◌+◌, ◌<◌, ℕ, List, [], Option, None, Some, Result, Ok, Err, length, replicate}
use Rattle.aig_answer.specs.Answer.{SoFar, answer_of, closed}
use Rattle.aig_answer.specs.Laws.{read_from}
use Rattle.aig_answer.specs.declared.reader.Spot.TheVariants.{Wrong}
use Rattle.aig_answer.specs.declared.reader.Status.{Status}
use Rattle.aig_answer.specs.declared.reader.Status.TheVariants.{Satisfiable, Unknown, Unsatisfiable}
use Rattle.aig_circuit.specs.declared.circuit.Circuit.{Circuit}
use Rattle.aig_circuit.specs.Wellformed.{IsWellFormed}
use Rattle.aig_fault.specs.Stopping.{fault_at}
use Rattle.aig_fault.specs.declared.fault.Fault.{Fault}
use Rattle.aig_fault.specs.declared.fault.Place.TheVariants.{Whole}
use Rattle.aig_fault.specs.declared.kind.Kind.TheVariants as kinds
use Rattle.aig_fault.specs.declared.stopped.Stopped.{Stopped}
use Rattle.aig_fault.specs.declared.stopped.Stopped.TheVariants.{OutOfMemory, ReadFailed, Refused, WriteFailed}
use Rattle.aig_io.specs.Runs.{AtEnd, Broken, Ending, IsUnbroken, Open}
use Rattle.aig_meaning.specs.Meaning.{Row}
use Rattle.aig_meaning.specs.Trace.{IsTrace}
use Rattle.aig_reach.specs.Cut.{cut_claim}
use Rattle.aig_unroll.specs.Unrolled.{all_inputs}
use Rattle.aig_witness.specs.declared.verdict.Verdict.TheVariants.{Confirmed}
use Rattle.aig_witness.specs.Witness.{Claim, IsVerdict, SaysClaim}
use Rattle.aig_replay.specs.declared.search.Hit.{Hit}
use Rattle.aig_replay.specs.Alone.{HasSelected, selected_of}
use Rattle.aig_replay.specs.Finding.{hit_from}
use Rattle.aig_replay.specs.Laws.{claim_of}
use Rattle.aig_replay.specs.Starting.{assigned}
use Rattle.aig_replay.specs.WitnessLines.{witness_text}

-- how far an answer of these bytes was read, and the values that it gives
abbrev pub read_over : Circuit → ℕ → List ℕ → SoFar
read_over d frames bytes = read_from (replicate (all_inputs d frames) 48) bytes

-- what it says, where no more bytes come
abbrev pub said_in : Circuit → ℕ → List ℕ → Result Status Fault
said_in d frames bytes = answer_of (closed (read_over d frames bytes).reader)

-- the run that values are
abbrev pub run_of : Circuit → ℕ → List ℕ → Claim
run_of d frames bits = cut_claim d frames (assigned bits) 0

-- that of an answer of these bytes
abbrev pub run_by : Circuit → ℕ → List ℕ → Claim
run_by d frames bytes = run_of d frames (read_over d frames bytes).bits

-- this is found in the run that these values are, or nothing is
pub record HasFound (d : Circuit) (frames : ℕ) (bits : List ℕ) (found : Option Hit) : Type 0 where
  pub rows : List Row
  pub trace : IsTrace d (run_of d frames bits).first (run_of d frames bits).steps rows
  pub is_found : hit_from 0 rows ≡ found

-- a claim of the circuit in which the selected bad state stands alone, as one of the circuit itself
abbrev pub claim_selected : Option ℕ → Claim → Claim
claim_selected None claim = claim
claim_selected (Some n) claim = record claim { property = n }

-- The answer says that a bad state is reached, and the run that its values are does reach one, first at the last step
-- of this claim: the selected one, if one was selected.
pub record ReachedBy (c : Circuit) (selected : Option ℕ) (frames : ℕ) (bytes : List ℕ) (claim : Claim) : Type 0 where
  pub hit : Hit
  pub said : said_in (selected_of selected c) frames bytes ≡ Ok Satisfiable
  pub found : HasFound (selected_of selected c) frames (read_over (selected_of selected c) frames bytes).bits (Some hit)
  pub is_claim : claim
      ≡ claim_selected selected (claim_of (run_by (selected_of selected c) frames bytes).first
      (run_by (selected_of selected c) frames bytes).steps hit)
  pub low : hit.step < frames
  pub long : length claim.steps ≡ hit.step + 1
  pub named : (n : ℕ) → selected ≡ Some n → claim.property ≡ n
  pub is_verdict : IsVerdict c claim (Confirmed hit.step)
  pub says : SaysClaim c (witness_text claim) claim

-- by the same bytes it is the same claim
abbrev pub AnswersHaveOneWitness : Type 0
AnswersHaveOneWitness = (c : Circuit) (selected : Option ℕ) (frames : ℕ) (bytes : List ℕ) (claim other : Claim)
    → IsWellFormed c → HasSelected selected c → ReachedBy c selected frames bytes claim
    → ReachedBy c selected frames bytes other
    → claim ≡ other

-- the fault of an answer that says this, where no bad state is reached by its values
abbrev pub fault_said : Result Status Fault → Fault
fault_said (Err fault) = fault
fault_said (Ok Unsatisfiable) = fault_at kinds.Unsatisfiable Whole 0
fault_said (Ok Unknown) = fault_at kinds.Unknown Whole 0
fault_said (Ok Satisfiable) = fault_at kinds.NotReached Whole 0

-- Why there is no witness: memory was refused before the source was called; the source failed, and nothing that came is
-- wrong; or all came, or a wrong byte after which nothing more was read, and it has this fault.
abbrev pub NotFoundBy : Circuit → ℕ → Stopped → List ℕ → Ending → Type 0
NotFoundBy d frames OutOfMemory bytes ending = (bytes ≡ []) × (ending ≡ Open)
NotFoundBy d frames ReadFailed bytes ending = (ending ≡ Broken) × ((read_over d frames bytes).reader.spot ≢ Wrong)
NotFoundBy d frames WriteFailed bytes ending = ⊥
NotFoundBy d frames (Refused fault) bytes ending =
    IsUnbroken ending × (ending ≡ Open → (read_over d frames bytes).reader.spot ≡ Wrong)
    × (fault ≡ fault_said (said_in d frames bytes))
    × (said_in d frames bytes ≡ Ok Satisfiable → HasFound d frames (read_over d frames bytes).bits None)

-- All came, and by it a bad state is reached, for each circuit from which this one was selected; or there is no
-- witness.
abbrev pub WitnessSays : Circuit → Option ℕ → ℕ → Result Claim Stopped → List ℕ → Ending → Type 0
WitnessSays d selected frames (Ok claim) bytes ending =
    (ending ≡ AtEnd)
    × ((c : Circuit) → IsWellFormed c → HasSelected selected c → d ≡ selected_of selected c
    → ReachedBy c selected frames bytes claim)
WitnessSays d selected frames (Err stopped) bytes ending = NotFoundBy d frames stopped bytes ending
