-- Which verdict a witness file gets, and what the answer of judging it says (this project's profile): a circuit is
-- read, and the verdict on what the witness file claims of it is written in a line.
use Rattle.std.specs.Prelude.{◌≡◌, ◌++◌, ℕ, List, Result, Ok, Err, codes, decimal}
use Rattle.aig_io.specs.Runs.{All, Delivery, Ending, IsCut, NotSent}
use Rattle.aig_circuit.specs.declared.circuit.Circuit.{Circuit}
use Rattle.aig_command.specs.declared.request.Sim.{Sim}
use Rattle.aig_lasso.specs.declared.verdict.LassoVerdict.TheVariants as lassos
use Rattle.aig_verdicts.specs.Judged.{IsVerdictFor, SaysFor, WitnessSays}
use Rattle.aig_verdicts.specs.declared.verdict.WitnessVerdict.{WitnessVerdict}
use Rattle.aig_verdicts.specs.declared.verdict.WitnessVerdict.TheVariants.{BadState, Justice}
use Rattle.aig_witness.specs.declared.verdict.Verdict.TheVariants.{Confirmed, NotConfirmed}
use Rattle.aig_witness.specs.Witness.{Claim}
use Rattle.aig_fault.specs.declared.stopped.Stopped.{Stopped}
use Rattle.aig_fault.specs.declared.stopped.Stopped.TheVariants.{WriteFailed}
use Rattle.aig_commands.specs.File.{IsFileOf}

-- The verdict for these bytes of a model and of a witness file: the model is the file of a circuit, this is claimed of
-- it, and this is the verdict on that.
pub record IsWitnessAnswer (request : Sim) (model witness : List ℕ) (verdict : WitnessVerdict) : Type 0 where
  pub found : Circuit
  pub claim : Claim
  pub read : IsFileOf model request.max_var found
  pub says : SaysFor found verdict witness claim
  pub is_verdict : IsVerdictFor found claim verdict

-- the line of a verdict
abbrev pub answer_line : WitnessVerdict → List ℕ
answer_line (BadState (Confirmed step)) = codes "confirmed " ++ (decimal step ++ codes "\n")
answer_line (BadState NotConfirmed) = codes "not confirmed\n"
answer_line (Justice (lassos.Confirmed start)) = codes "confirmed " ++ (decimal start ++ codes "\n")
answer_line (Justice lassos.NotConfirmed) = codes "not confirmed\n"

-- The file was judged, and the line of the verdict was taken, or the sink failed on the way; or there is no verdict,
-- and nothing was sent.
abbrev pub AnswerSays : Circuit → Result WitnessVerdict Stopped → List ℕ → Ending → List ℕ → Delivery → Type 0
AnswerSays c (Ok verdict) bytes ending text delivery =
    WitnessSays c (Ok verdict) bytes ending × (text ≡ answer_line verdict) × (delivery ≡ All)
AnswerSays c (Err WriteFailed) bytes ending text delivery =
    (verdict : WitnessVerdict) × WitnessSays c (Ok verdict) bytes ending × (text ≡ answer_line verdict) × IsCut delivery
AnswerSays c (Err stopped) bytes ending text delivery = WitnessSays c (Err stopped) bytes ending × (delivery ≡ NotSent)
