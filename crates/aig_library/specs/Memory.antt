-- What a job comes to in memory, by what each of its sources makes of it.
use Rattle.std.specs.Prelude.{ℕ, List, Result, Ok, Err, ⊤}
use Rattle.aig_commands.specs.Jobs.{Makes, Refuses, source_of, text_of}
use Rattle.aig_commands.specs.declared.answer.Answer.{Answer}
use Rattle.aig_commands.specs.declared.job.Job.{Job}
use Rattle.aig_commands.specs.declared.job.Job.TheVariants as jobs
use Rattle.aig_commands.specs.declared.job.Part.{Part}
use Rattle.aig_commands.specs.declared.job.Part.TheVariants.{File, Model, Refutation}
use Rattle.aig_commands.specs.declared.job.Reading.{Reading}
use Rattle.aig_commands.specs.declared.job.Reading.TheVariants as readings
use Rattle.aig_fault.specs.declared.fault.Fault.{Fault}
use Rattle.aig_io.specs.Runs.{AtEnd}
use Rattle.aig_library.specs.declared.memory.Inputs.{Inputs}

-- no steps are read for this, and no position is chosen
abbrev pub HasNoSteps : Job → Type 0
HasNoSteps (jobs.Read (readings.Sim request)) = ⊥
HasNoSteps (jobs.Read (readings.Select request)) = ⊥
HasNoSteps (jobs.Read (readings.ToDot request)) = ⊥
HasNoSteps (jobs.Steps task model) = ⊥
HasNoSteps (jobs.Refuse refusal) = ⊥
HasNoSteps job = ⊤

-- the bytes of a source
abbrev pub input_at : Inputs → Part → List ℕ
input_at inputs Model = inputs.model.now
input_at inputs File = inputs.file.now
input_at inputs Refutation = inputs.refutation.now

-- What a job comes to, unless memory is refused: its source makes another job of it, and that comes to this; or the
-- source is refused; or the text of an answer is written.
pub data Comes (inputs : Inputs) : Job → Result (List ℕ) Fault → Type 0 where
  makes : (reading : Reading) (next : Job) (answer : Result (List ℕ) Fault)
      → Makes reading (input_at inputs (source_of reading)) next → Comes inputs next answer
      → Comes inputs (jobs.Read reading) answer
  is_refused : (reading : Reading) (fault : Fault) → Refuses reading fault (input_at inputs (source_of reading)) AtEnd
      → Comes inputs (jobs.Read reading) (Err fault)
  is_written : (answer : Answer) → Comes inputs (jobs.Write answer) (Ok (text_of answer))
