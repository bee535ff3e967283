-- Which text a simulation writes (this project's profile): a circuit is read, and the trace text of the stimulus is
-- written, or the dump of that.
use Rattle.std.specs.Prelude.{◌≡◌, ℕ, List, true, None, MatchBool, if◌then◌else◌}
use Rattle.aig_circuit.specs.declared.circuit.Circuit.{Circuit}
use Rattle.aig_command.specs.declared.request.Sim.{Sim}
use Rattle.aig_step.specs.declared.trace.Columns.{Columns}
use Rattle.aig_step.specs.declared.trace.Columns.TheVariants.{Plain, Properties}
use Rattle.aig_step.specs.Outcome.{first_bad_line}
use Rattle.aig_step.specs.TraceText.{IsTraceText}
use Rattle.aig_wave.specs.Wave.{wave_text}
use Rattle.aig_commands.specs.File.{IsFileOf}
use Rattle.aig_commands.specs.declared.task.Task.{Task}
use Rattle.aig_commands.specs.declared.task.Task.TheVariants as tasks

-- which columns the lines of the trace have
abbrev pub columns_of : Sim → Columns
columns_of request = if request.properties then Properties else Plain

-- what a request asks for of a model and the steps after it
abbrev pub task_of : Sim → Task
task_of request =
    if request.witness then (if request.vcd then tasks.RunDump else tasks.Verdict)
    else (if request.vcd then tasks.Dump request.batch else tasks.Trace request.batch (columns_of request))

-- The trace that is written for these bytes of a model and of a stimulus: the model is the file of a circuit, no line
-- of the stimulus is bad, and this is the trace text of all of it.
pub record IsSimulationText (request : Sim) (model stimulus text : List ℕ) : Type 0 where
  pub found : Circuit
  pub read : IsFileOf model request.max_var found
  pub none_bad : first_bad_line found stimulus true ≡ None
  pub is_trace : IsTraceText found (columns_of request) stimulus true text

-- the dump that is written for them: that of the trace with all its columns
pub record IsDumpText (request : Sim) (model stimulus dump : List ℕ) : Type 0 where
  pub trace : List ℕ
  pub simulation : IsSimulationText (record request { properties = true }) model stimulus trace
  pub is_dump : dump ≡ wave_text simulation.found trace true

-- what is written for them, as the request asks
abbrev pub IsWrittenText : Sim → (model stimulus text : List ℕ) → Type 0
IsWrittenText request model stimulus text =
    MatchBool request.vcd (IsDumpText request model stimulus text) (IsSimulationText request model stimulus text)
