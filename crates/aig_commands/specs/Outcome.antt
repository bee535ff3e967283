-- What the answer of a request says (this project's profile). All of a source or a model is read and found right before
-- anything else is called.
use Rattle.std.specs.Prelude.{◌≡◌, ◌⊎◌, ℕ, List, Result, Ok, Err}
use Rattle.aig_fault.specs.declared.fault.Fault.{Fault}
use Rattle.aig_fault.specs.declared.stopped.Stopped.{Stopped}
use Rattle.aig_fault.specs.declared.stopped.Stopped.TheVariants.{WriteFailed}
use Rattle.aig_io.specs.Devices.{History}
use Rattle.aig_io.specs.Runs.{All, AtEnd, Delivery, Ending, IsCut, NotSent, Read, Transferred}
use Rattle.aig_circuit.specs.declared.circuit.Circuit.{Circuit}
use Rattle.aig_command.specs.declared.request.Sim.{Sim}
use Rattle.aig_commands.specs.File.{IsFileOf}
use Rattle.aig_commands.specs.Reading.{AtItsEnd, IsUnreadable, NotRead}

-- Of one source and one destination: all came, and the text for it was taken, or the sink failed on the way; or nothing
-- was made of what came, and nothing was sent.
abbrev pub Says : (List ℕ → List ℕ → Type 0) → (Fault → List ℕ → Type 0) → Result (Unit {0}) Stopped → List ℕ → Ending
    → List ℕ → Delivery → Type 0
Says IsText IsRefused (Ok done) bytes ending text delivery = (ending ≡ AtEnd) × (delivery ≡ All) × IsText bytes text
Says IsText IsRefused (Err WriteFailed) bytes ending text delivery = (ending ≡ AtEnd) × IsCut delivery
    × IsText bytes text
Says IsText IsRefused (Err stopped) bytes ending text delivery =
    NotRead (AtItsEnd IsRefused) stopped bytes ending × (delivery ≡ NotSent)

-- what came is the file of this circuit, all of it
abbrev pub IsModel : Sim → Circuit → List ℕ → Ending → Type 0
IsModel request c bytes ending = (ending ≡ AtEnd) × IsFileOf bytes request.max_var c

-- Of a model, a stimulus or witness file, and a sink: the model was not read or is no file of a circuit, and nothing
-- else was called; or it is the file of this circuit, and this was done for it.
abbrev pub TransferredFor : {A : Type 0} → Sim → (Circuit → List ℕ → Ending → List ℕ → Delivery → Type 0)
    → Result A Stopped
    → (model model_now stimulus stimulus_now sink sink_now : History) → Type 0
TransferredFor request Says answer model model_now stimulus stimulus_now sink sink_now =
    ((stopped : Stopped) × (answer ≡ Err stopped)
    × Read (NotRead (AtItsEnd (IsUnreadable request.max_var)) stopped) model model_now
    × (stimulus_now ≡ stimulus) × (sink_now ≡ sink))
    ⊎ ((found : Circuit) × Read (IsModel request found) model model_now
    × Transferred (Says found) stimulus stimulus_now sink sink_now)
