-- What is reported on standard error, in one line (this project's profile).
use Rattle.std.specs.Prelude.{◌≡◌, ◌++◌, ◌⊎◌, ℕ, List, [], Option, None, Some, codes, string_bytes}
use Rattle.aig_command.specs.Answer.{name_of}
use Rattle.aig_command.specs.Words.{usage_words}
use Rattle.aig_command.specs.declared.request.Names.{Names}
use Rattle.aig_command.specs.declared.usage.Usage.{Usage}
use Rattle.aig_command.specs.declared.usage.Usage.TheVariants as usages
use Rattle.aig_commands.specs.Refusals.{refusal_text}
use Rattle.aig_commands.specs.declared.job.Part.{Part}
use Rattle.aig_commands.specs.declared.job.Part.TheVariants.{File, Model, Refutation}
use Rattle.aig_commands.specs.declared.refusal.Refusal.{Refusal}
use Rattle.aig_fault.specs.Stopping.{stopped_text}
use Rattle.aig_files.specs.Reasons.{reason_words}
use Rattle.aig_files.specs.declared.reason.Reason.{Reason}
use Rattle.aig_fault.specs.declared.stopped.Stopped.{Stopped}
use Rattle.aig_fault.specs.declared.stopped.Stopped.TheVariants.{OutOfMemory, ReadFailed, Refused, WriteFailed}
use Rattle.aig_io.specs.Devices.{History, TookBeginning, took}
use Rattle.aig_memory.specs.Text.{out_of_memory_text}

-- a file by its name, and a stream by `-`
abbrev pub shown : Option (List ℕ) → List ℕ
shown None = codes "-"
shown (Some name) = name

-- a line of the program: what it is about, and what is wrong
abbrev pub line_of : List ℕ → List ℕ → List ℕ
line_of subject text = codes "aiger: " ++ (subject ++ (text ++ codes "\n"))

-- where an argument is not UTF-8 text
abbrev pub words_line : List ℕ
words_line = line_of [] (codes "an argument is not UTF-8 text")

abbrev pub memory_line : List ℕ
memory_line = line_of [] out_of_memory_text

-- the name of a source
abbrev pub name_at : Names → Part → Option (List ℕ)
name_at names Model = name_of names.model
name_at names File = name_of names.file
name_at names Refutation = name_of names.refutation

-- what a line is about: of memory nothing, of a sink the destination, else this source
abbrev pub subject_text : Names → Part → Stopped → List ℕ
subject_text names part OutOfMemory = []
subject_text names part WriteFailed = shown (name_of names.destination) ++ codes ": "
subject_text names part ReadFailed = shown (name_at names part) ++ codes ": "
subject_text names part (Refused fault) = shown (name_at names part) ++ codes ": "

-- why a file could not be used, if the system told; of a stream it is not known
abbrev pub why_text : Option (List ℕ) → Option Reason → List ℕ
why_text (Some name) (Some reason) = codes ": " ++ reason_words reason
why_text name why = []

-- why a job stopped, if that was a file
abbrev pub cause_text : Names → Part → Stopped → Option Reason → List ℕ
cause_text names part OutOfMemory why = []
cause_text names part WriteFailed why = why_text (name_of names.destination) why
cause_text names part ReadFailed why = why_text (name_at names part) why
cause_text names part (Refused fault) why = []

-- the line that reports why a job stopped at this source, or after it, where the files failed for this reason
abbrev pub stop_line : Names → Part → Stopped → Option Reason → List ℕ
stop_line names part stopped why =
    line_of (subject_text names part stopped) (stopped_text stopped ++ cause_text names part stopped why)

-- the line that reports what the model has not
abbrev pub refusal_line : Names → Refusal → List ℕ
refusal_line names refusal = line_of (shown (name_of names.model) ++ codes ": ") (refusal_text refusal)

-- what is printed where the words are refused: the text of `clap`, or a line
abbrev pub usage_text : Usage → List ℕ
usage_text (usages.Words text) = string_bytes text
usage_text usage = line_of [] (usage_words usage)

-- the sink took the line, or a beginning of it and failed
abbrev pub IsReported : List ℕ → (errors errors_now : History) → Type 0
IsReported line errors errors_now = (errors_now ≡ took line errors) ⊎ TookBeginning line errors errors_now
