-- How a job ends over files and streams, and a call of the program (this project's profile).
use Rattle.std.specs.Prelude.{◌≡◌, ◌&&◌, ℕ, Bool, true, false, List, Option, None, Some, Result, Ok, Err}
use Rattle.aig_circuit.specs.declared.circuit.Circuit.{Circuit}
use Rattle.aig_command.specs.Answer.{IsCommand, IsUsage, is_binary_stream, name_of}
use Rattle.aig_command.specs.Asked.{asks_force, asks_sync}
use Rattle.aig_command.specs.declared.request.CommandLine.{CommandLine}
use Rattle.aig_command.specs.declared.request.Names.{Names}
use Rattle.aig_command.specs.declared.usage.Usage.{Usage}
use Rattle.aig_command.specs.declared.usage.Usage.TheVariants as usages
use Rattle.aig_commands.specs.Jobs.{Makes, Refuses, job_of, source_of, text_of}
use Rattle.aig_commands.specs.Reading.{ReadSays}
use Rattle.aig_commands.specs.declared.answer.Answer.{Answer}
use Rattle.aig_commands.specs.declared.job.Job.{Job}
use Rattle.aig_commands.specs.declared.job.Job.TheVariants as jobs
use Rattle.aig_commands.specs.declared.job.Part.{Part}
use Rattle.aig_commands.specs.declared.job.Part.TheVariants.{File, Model}
use Rattle.aig_commands.specs.declared.job.Reading.{Reading}
use Rattle.aig_commands.specs.declared.refusal.Refusal.{Refusal}
use Rattle.aig_commands.specs.declared.task.Task.{Task}
use Rattle.aig_fault.specs.declared.stopped.Stopped.{Stopped}
use Rattle.aig_io.specs.Files.{with_sync}
use Rattle.aig_lasso.specs.declared.verdict.LassoVerdict.TheVariants as lassos
use Rattle.aig_verdicts.specs.declared.verdict.WitnessVerdict.{WitnessVerdict}
use Rattle.aig_verdicts.specs.declared.verdict.WitnessVerdict.TheVariants.{BadState, Justice}
use Rattle.aig_witness.specs.declared.verdict.Verdict.TheVariants.{Confirmed, NotConfirmed}
use Rattle.aig_tools.specs.Lines.{IsReported, name_at, refusal_line, stop_line, usage_text}
use Rattle.aig_tools.specs.SimulationOutcome.{TaskSays, without_verdict}
use Rattle.aig_tools.specs.Worlds.{ReadIn, SentIn, TakesAs, TransferredBetween, World}

-- that line was reported, and nothing else was touched
pub record IsReportedIn (line : List ℕ) (before after : World) : Type 0 where
  pub alone : after ≡ record before { errors = after.errors }
  pub reported : IsReported line before.errors after.errors

-- the status where what was asked for is done: 1 where a witness is not confirmed, else 0
abbrev pub done_status : Option WitnessVerdict → ℕ
done_status None = 0
done_status (Some (BadState (Confirmed step))) = 0
done_status (Some (BadState NotConfirmed)) = 1
done_status (Some (Justice (lassos.Confirmed start))) = 0
done_status (Some (Justice lassos.NotConfirmed)) = 1

-- it is done, and nothing is reported, also where a witness is not confirmed; or it stopped, which is
abbrev pub Concludes : Names → Part → Result (Option WitnessVerdict) Stopped → (before after : World) → ℕ → Type 0
Concludes names part (Ok verdict) before after status = (status ≡ done_status verdict) × (after ≡ before)
Concludes names part (Err stopped) before after status =
    (status ≡ 1) × IsReportedIn (stop_line names part stopped before.why) before after

-- How a job ends: its next source is read, and what that makes of it ends so; or that is not read or is refused; or
-- steps are answered as they come; or its answer is written; or the model has not what was asked of it.
pub data Ends (names : Names) : Job → World → World → ℕ → Type 0 where
  goes_on : (reading : Reading) (next : Job) (before between after : World) (status : ℕ)
      → ReadIn (ReadSays (λ next bytes. Makes reading bytes next) (Refuses reading) (Ok next))
      (name_at names (source_of reading)) before between
      → Ends names next between after status → Ends names (jobs.Read reading) before after status
  is_stopped : (reading : Reading) (stopped : Stopped) (before between after : World) (status : ℕ)
      → ReadIn (ReadSays (λ next bytes. Makes reading bytes next) (Refuses reading) (Err stopped))
      (name_at names (source_of reading)) before between
      → Concludes names (source_of reading) (Err stopped) between after status
      → Ends names (jobs.Read reading) before after status
  answers_steps : (task : Task) (model : Circuit) (answer : Result (Option WitnessVerdict) Stopped)
      (before between after : World) (status : ℕ)
      → TransferredBetween (TaskSays task model answer) (name_at names File) None before between
      → Concludes names File answer between after status → Ends names (jobs.Steps task model) before after status
  writes : (answer : Answer) (sent : Result (Unit {0}) Stopped) (before between after : World) (status : ℕ)
      → SentIn (λ text delivery. (text ≡ text_of answer) × TakesAs sent delivery) (name_of names.destination) before
      between
      → Concludes names Model (without_verdict sent) between after status
      → Ends names (jobs.Write answer) before after status
  refuses : (refusal : Refusal) (before after : World) → IsReportedIn (refusal_line names refusal) before after
      → Ends names (jobs.Refuse refusal) before after 1

-- the status of refused words: 1 where memory was refused, else 2
abbrev pub status_of : Usage → ℕ
status_of usages.OutOfMemory = 1
status_of usage = 2

-- what is answered to the words
abbrev pub IsAnswered : List (List ℕ) → Result CommandLine Usage → Type 0
IsAnswered words (Ok line) =
    IsCommand words line.names line.command × (line.sync ≡ asks_sync words) × (line.force ≡ asks_force words)
IsAnswered words (Err usage) = IsUsage words usage

-- what a program can reach, where what it writes is synced if that is asked for
abbrev pub with_sync_if : Bool → World → World
with_sync_if true before = record before { files = with_sync before.files }
with_sync_if false before = before

-- the words are refused, which is reported, and nothing else was done
abbrev pub IsRefused : Usage → (before after : World) → ℕ → Type 0
IsRefused usage before after status = (status ≡ status_of usage) × IsReportedIn (usage_text usage) before after

-- a command is refused that would garble a terminal; or its job ends so, and the destination is synced where the words
-- ask for that
abbrev pub CommandEnds : Bool → CommandLine → (before after : World) → ℕ → Type 0
CommandEnds true line before after status = IsRefused usages.BinaryToTerminal before after status
CommandEnds false line before after status =
    Ends line.names (job_of line.command) (with_sync_if line.sync before) after status

-- How the program ends, by that, where its standard output is a terminal or not: its command does, which garbles a
-- terminal by binary that is not forced; or the words are refused.
abbrev pub EndsAs : Bool → Result CommandLine Usage → (before after : World) → ℕ → Type 0
EndsAs to_terminal (Ok line) before after status =
    CommandEnds (to_terminal && is_binary_stream line) line before after status
EndsAs to_terminal (Err usage) before after status = IsRefused usage before after status

-- the program answers the words, and ends so
abbrev pub ProgramEnds : List (List ℕ) → Bool → (before after : World) → ℕ → Type 0
ProgramEnds words to_terminal before after status =
    (answer : Result CommandLine Usage) × IsAnswered words answer × EndsAs to_terminal answer before after status
