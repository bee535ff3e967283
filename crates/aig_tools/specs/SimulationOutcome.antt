-- What the answer of a simulation says, or of judging a witness file (this project's profile).
use Rattle.std.specs.Prelude.{◌≡◌, ℕ, List, Option, None, Some, Result, Ok, Err}
use Rattle.aig_io.specs.Runs.{All, AtEnd, Delivery, Ending}
use Rattle.aig_circuit.specs.declared.circuit.Circuit.{Circuit}
use Rattle.aig_command.specs.declared.request.Sim.{Sim}
use Rattle.aig_verdicts.specs.declared.verdict.WitnessVerdict.{WitnessVerdict}
use Rattle.aig_dump.specs.Dumped.{DumpSays, TraceSaysAs}
use Rattle.aig_fault.specs.declared.stopped.Stopped.{Stopped}
use Rattle.aig_commands.specs.File.{IsFileOf}
use Rattle.aig_commands.specs.Simulation.{IsWrittenText, task_of}
use Rattle.aig_commands.specs.WitnessDump.{RunDumpSays}
use Rattle.aig_commands.specs.WitnessOutcome.{AnswerSays}
use Rattle.aig_commands.specs.declared.task.Task.{Task}
use Rattle.aig_commands.specs.declared.task.Task.TheVariants as tasks

-- what an answer without a verdict says, which blames the steps alone
abbrev pub OfSteps : (Result (Unit {0}) Stopped → List ℕ → Ending → List ℕ → Delivery → Type 0)
    → Result (Option WitnessVerdict) Stopped → List ℕ → Ending → List ℕ → Delivery → Type 0
OfSteps Says (Ok None) bytes ending text delivery = Says (Ok tt) bytes ending text delivery
OfSteps Says (Ok (Some verdict)) bytes ending text delivery = ⊥
OfSteps Says (Err stopped) bytes ending text delivery = Says (Err stopped) bytes ending text delivery

-- what an answer with a verdict says
abbrev pub OfVerdict : (Result WitnessVerdict Stopped → List ℕ → Ending → List ℕ → Delivery → Type 0)
    → Result (Option WitnessVerdict) Stopped → List ℕ → Ending → List ℕ → Delivery → Type 0
OfVerdict Says (Ok None) bytes ending text delivery = ⊥
OfVerdict Says (Ok (Some verdict)) bytes ending text delivery = Says (Ok verdict) bytes ending text delivery
OfVerdict Says (Err fault) bytes ending text delivery = Says (Err fault) bytes ending text delivery

-- what an answer says where this was asked for this circuit
abbrev pub TaskSays : Task → Circuit → Result (Option WitnessVerdict) Stopped → List ℕ → Ending → List ℕ → Delivery → Type 0
TaskSays (tasks.Trace batch columns) c = OfSteps (TraceSaysAs batch c columns)
TaskSays (tasks.Dump batch) c = OfSteps (DumpSays batch c)
TaskSays tasks.Verdict c = OfVerdict (AnswerSays c)
TaskSays tasks.RunDump c = OfVerdict (RunDumpSays c)

-- an answer of one who asks for no verdict
abbrev pub without_verdict : Result (Unit {0}) Stopped → Result (Option WitnessVerdict) Stopped
without_verdict (Ok done) = Ok None
without_verdict (Err fault) = Err fault

-- where a simulation is done, its text was taken: the trace of the model and the stimulus, or the dump of that
abbrev pub SimulationsWriteTheirTexts : Type 0
SimulationsWriteTheirTexts = (request : Sim) (c : Circuit) (model bytes text : List ℕ) (ending : Ending)
    (delivery : Delivery) → IsFileOf model request.max_var c
    → TaskSays (task_of request) c (Ok None) bytes ending text delivery
    → (ending ≡ AtEnd) × (delivery ≡ All) × IsWrittenText request model bytes text
