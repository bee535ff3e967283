-- The dump that is written for a model and a witness file, and what the answer says there (this project's profile).
use Rattle.std.specs.Prelude.{◌≡◌, ℕ, List, Result, Ok, Err}
use Rattle.aig_io.specs.Runs.{All, AtEnd, Delivery, Ending, IsCut, NotSent}
use Rattle.aig_circuit.specs.declared.circuit.Circuit.{Circuit}
use Rattle.aig_command.specs.declared.request.Sim.{Sim}
use Rattle.aig_verdicts.specs.declared.verdict.WitnessVerdict.{WitnessVerdict}
use Rattle.aig_claims.specs.RunDump.{HasNoDump, IsWitnessDump, JudgedWith}
use Rattle.aig_fault.specs.declared.stopped.Stopped.{Stopped}
use Rattle.aig_fault.specs.declared.stopped.Stopped.TheVariants.{WriteFailed}
use Rattle.aig_commands.specs.WitnessOutcome.{IsWitnessAnswer}

-- What is written where a dump is asked for, for these bytes of a model and of a witness file.
pub record IsWitnessDumpText (request : Sim) (model witness : List ℕ) (verdict : WitnessVerdict) (text : List ℕ) : Type 0 where
  pub answer : IsWitnessAnswer request model witness verdict
  pub is_dump : IsWitnessDump answer.found answer.claim verdict text

-- The file was judged, and the dump for it was taken, or the sink failed on the way; or there is no dump, and nothing
-- was sent.
abbrev pub RunDumpSays : Circuit → Result WitnessVerdict Stopped → List ℕ → Ending → List ℕ → Delivery → Type 0
RunDumpSays c (Ok verdict) bytes ending text delivery =
    (ending ≡ AtEnd) × JudgedWith c verdict bytes text × (delivery ≡ All)
RunDumpSays c (Err WriteFailed) bytes ending text delivery =
    (ending ≡ AtEnd) × ((verdict : WitnessVerdict) × JudgedWith c verdict bytes text) × IsCut delivery
RunDumpSays c (Err stopped) bytes ending text delivery = HasNoDump c stopped bytes ending × (delivery ≡ NotSent)
