-- What each source makes of a job, and what is written in the end (this project's profile).
use Rattle.std.specs.Prelude.{◌≡◌, ◌<◌, ◌⊎◌, ℕ, List, Bool, true, false, length, string_bytes, ⊤}
use Rattle.aig_binary.specs.BinaryText.{binary_text}
use Rattle.aig_circuit.specs.declared.circuit.Circuit.{Circuit}
use Rattle.aig_command.specs.Answer.{CanReach, HasFrames, IsKeptAlone}
use Rattle.aig_command.specs.declared.request.Command.{Command}
use Rattle.aig_command.specs.declared.request.Command.TheVariants as commands
use Rattle.aig_command.specs.declared.request.Invariant.{Invariant}
use Rattle.aig_command.specs.declared.request.Reach.{Reach}
use Rattle.aig_command.specs.declared.request.Select.{Select}
use Rattle.aig_command.specs.declared.request.SolverFile.{SolverFile}
use Rattle.aig_command.specs.declared.request.SolverFile.TheVariants as wrote
use Rattle.aig_command.specs.declared.request.ToDot.{ToDot}
use Rattle.aig_cuts.specs.CutText.{cut_text}
use Rattle.aig_dot.specs.Dot.{dot_text}
use Rattle.aig_fault.specs.declared.fault.Fault.{Fault}
use Rattle.aig_info.specs.InfoText.{info_text}
use Rattle.aig_io.specs.Runs.{Ending}
use Rattle.aig_replay.specs.WitnessLines.{lasso_text, witness_text}
use Rattle.aig_text.specs.AsciiText.{ascii_text}
use Rattle.aig_commands.specs.Comparing.{IsAccepted, IsFirst, IsMiterText, NotFirst, NotMiter}
use Rattle.aig_commands.specs.Conversion.{IsConversionRefused, IsConversionText}
use Rattle.aig_commands.specs.Counting.{IsInfoText}
use Rattle.aig_commands.specs.Drawing.{IsDotText, IsNotDrawn}
use Rattle.aig_commands.specs.File.{IsFileOf}
use Rattle.aig_commands.specs.Proving.{IsInvariantModel, IsInvariantText, IsNeverText, IsStrengthened}
use Rattle.aig_commands.specs.Proving.{NotInvariantModel}
use Rattle.aig_commands.specs.Proving.{NotStrengthened, never_text, over_one_frame}
use Rattle.aig_commands.specs.Reaching.{IsModelRefused, IsReachRefused, IsReachText, IsSelectedModel}
use Rattle.aig_commands.specs.Reading.{AtAnyTime, AtItsEnd, IsUnreadable}
use Rattle.aig_commands.specs.Refuting.{CanUnroll, IsNoneText, IsRefutationRefused, none_text}
use Rattle.aig_commands.specs.Selecting.{IsNotSelected, IsSelectionText}
use Rattle.aig_commands.specs.Simulation.{task_of}
use Rattle.aig_commands.specs.Unrolling.{IsUnrollingRefused, IsUnrollingText, unrolled_text}
use Rattle.aig_commands.specs.declared.answer.Answer.{Answer}
use Rattle.aig_commands.specs.declared.answer.Answer.TheVariants as answers
use Rattle.aig_commands.specs.declared.job.Job.{Job}
use Rattle.aig_commands.specs.declared.job.Job.TheVariants as jobs
use Rattle.aig_commands.specs.declared.job.Part.{Part}
use Rattle.aig_commands.specs.declared.job.Part.TheVariants.{File, Model, Refutation}
use Rattle.aig_commands.specs.declared.job.Reading.{Reading}
use Rattle.aig_commands.specs.declared.job.Reading.TheVariants as readings
use Rattle.aig_commands.specs.declared.refusal.Refusal.{Refusal}

-- the text that is written
abbrev pub text_of : Answer → List ℕ
text_of (answers.Ascii circuit) = ascii_text circuit
text_of (answers.Binary image) = binary_text image
text_of (answers.Mapped image) = binary_text image
text_of (answers.Unrolled form circuit) = unrolled_text form circuit
text_of (answers.Clauses plan circuit) = cut_text plan circuit
text_of (answers.Witness claim) = witness_text claim
text_of (answers.Lasso claim) = lasso_text claim
text_of (answers.NoneWithin frames) = none_text frames
text_of answers.Never = never_text
text_of (answers.Info form info) = info_text form info
text_of (answers.Picture picture circuit) = dot_text picture circuit
text_of (answers.Text text) = string_bytes text

-- the job that a command is
abbrev pub job_of : Command → Job
job_of (commands.ToAig request) = jobs.Read (readings.ToAig request)
job_of (commands.Sim request) = jobs.Read (readings.Sim request)
job_of (commands.Unroll request) = jobs.Read (readings.Unroll request)
job_of (commands.Reach request) = jobs.Read (readings.Reach request)
job_of (commands.Invariant request) = jobs.Read (readings.Invariant request)
job_of (commands.Miter request) = jobs.Read (readings.First request)
job_of (commands.Info request) = jobs.Read (readings.Info request)
job_of (commands.Select request) = jobs.Read (readings.Select request)
job_of (commands.ToDot request) = jobs.Read (readings.ToDot request)
job_of (commands.Help text) = jobs.Write (answers.Text text)
job_of (commands.Version text) = jobs.Write (answers.Text text)

-- the source that is read next
abbrev pub source_of : Reading → Part
source_of (readings.ToAig request) = Model
source_of (readings.Unroll request) = Model
source_of (readings.Reach request) = Model
source_of (readings.Solved request selected) = File
source_of (readings.Invariant request) = Model
source_of (readings.Clauses request selected) = File
source_of (readings.Strengthen request selected) = File
source_of (readings.Never request strengthened) = Refutation
source_of (readings.First request) = Model
source_of (readings.Second request first) = File
source_of (readings.Sim request) = Model
source_of (readings.Info request) = Model
source_of (readings.Select request) = Model
source_of (readings.ToDot request) = Model

-- an answer is written, and this holds of its text
abbrev pub WritesText : (List ℕ → Type 0) → Job → Type 0
WritesText IsText next = (answer : Answer) × IsText (text_of answer) × (next ≡ jobs.Write answer)

-- the circuit that was read has not what the arguments speak of, for this reason
abbrev pub IsRefusedFor : (Refusal → Type 0) → Job → Type 0
IsRefusedFor Is next = (refusal : Refusal) × Is refusal × (next ≡ jobs.Refuse refusal)

-- what is chosen is written, or is not there
abbrev pub MakesSelection : Select → List ℕ → Job → Type 0
MakesSelection request bytes next =
    WritesText (IsSelectionText request bytes) next ⊎ IsRefusedFor (IsNotSelected request bytes) next

-- a picture is written, or there is none
abbrev pub MakesPicture : ToDot → List ℕ → Job → Type 0
MakesPicture request bytes next =
    WritesText (IsDotText request bytes) next ⊎ IsRefusedFor (IsNotDrawn request bytes) next

-- the text for what a solver wrote on the clauses of this circuit
abbrev pub IsSolvedText : SolverFile → Reach → Circuit → (bytes text : List ℕ) → Type 0
IsSolvedText wrote.Answer request selected bytes text = IsReachText request selected bytes text
IsSolvedText wrote.Refutation request selected bytes text = IsNoneText request selected text

-- why there is none
abbrev pub IsSolvedRefused : SolverFile → Reach → Circuit → Fault → List ℕ → Ending → Type 0
IsSolvedRefused wrote.Answer request selected = AtAnyTime (IsReachRefused request selected)
IsSolvedRefused wrote.Refutation request selected = IsRefutationRefused request selected

-- what an invariant of this circuit is read for: its clauses are refuted, or written
abbrev pub read_for : Bool → Invariant → Circuit → Reading
read_for true request selected = readings.Strengthen request selected
read_for false request selected = readings.Clauses request selected

-- what is to be done once these bytes of the source came
abbrev pub Makes : Reading → List ℕ → Job → Type 0
Makes (readings.ToAig request) bytes next = WritesText (IsConversionText request bytes) next
Makes (readings.Unroll request) bytes next = WritesText (IsUnrollingText request bytes) next
Makes (readings.Reach request) bytes next =
    (selected : Circuit) × IsSelectedModel request bytes selected
    × (next ≡ jobs.Read (readings.Solved request selected))
Makes (readings.Solved request selected) bytes next = WritesText (IsSolvedText request.wrote request selected bytes)
    next
Makes (readings.Invariant request) bytes next =
    (selected : Circuit) × IsInvariantModel request bytes selected
    × (next ≡ jobs.Read (read_for request.refuted request selected))
Makes (readings.Clauses request selected) bytes next = WritesText (IsInvariantText request selected bytes) next
Makes (readings.Strengthen request selected) bytes next =
    (strengthened : Circuit) × IsStrengthened selected bytes strengthened
    × (next ≡ jobs.Read (readings.Never request strengthened))
Makes (readings.Never request strengthened) bytes next = WritesText (IsNeverText request strengthened) next
Makes (readings.First request) bytes next =
    (first : Circuit) × IsFirst request bytes first × (next ≡ jobs.Read (readings.Second request first))
Makes (readings.Second request first) bytes next = WritesText (IsMiterText request first bytes) next
Makes (readings.Sim request) bytes next =
    (model : Circuit) × IsFileOf bytes request.max_var model × (next ≡ jobs.Steps (task_of request) model)
Makes (readings.Info request) bytes next = WritesText (IsInfoText request bytes) next
Makes (readings.Select request) bytes next = MakesSelection request bytes next
Makes (readings.ToDot request) bytes next = MakesPicture request bytes next

-- why nothing is: these bytes came, and ended so
abbrev pub Refuses : Reading → Fault → List ℕ → Ending → Type 0
Refuses (readings.ToAig request) = AtItsEnd (IsConversionRefused request)
Refuses (readings.Unroll request) = AtItsEnd (IsUnrollingRefused request)
Refuses (readings.Reach request) = AtItsEnd (IsModelRefused request)
Refuses (readings.Solved request selected) = IsSolvedRefused request.wrote request selected
Refuses (readings.Invariant request) = AtItsEnd (NotInvariantModel request)
Refuses (readings.Clauses request selected) = AtItsEnd (NotStrengthened selected)
Refuses (readings.Strengthen request selected) = AtItsEnd (NotStrengthened selected)
Refuses (readings.Never request strengthened) = IsRefutationRefused (over_one_frame request) strengthened
Refuses (readings.First request) = AtItsEnd (NotFirst request)
Refuses (readings.Second request first) = AtItsEnd (NotMiter request first)
Refuses (readings.Sim request) = AtItsEnd (IsUnreadable request.max_var)
Refuses (readings.Info request) = AtItsEnd (IsUnreadable request.max_var)
Refuses (readings.Select request) = AtItsEnd (IsUnreadable request.max_var)
Refuses (readings.ToDot request) = AtItsEnd (IsUnreadable request.max_var)

-- A source can be read for this: the request can be met, and the clauses of the circuit fit.
abbrev pub CanRead : Reading → Type 0
CanRead (readings.ToAig request) = IsKeptAlone request
CanRead (readings.Unroll request) = HasFrames request
CanRead (readings.Reach request) = CanReach request
CanRead (readings.Solved request selected) = CanUnroll selected request.frames
CanRead (readings.Never request strengthened) = CanUnroll strengthened 1
CanRead (readings.Second request first) = IsAccepted request first
CanRead reading = ⊤

-- A job can be done: what is written has a byte at least.
abbrev pub CanDo : Job → Type 0
CanDo (jobs.Read reading) = CanRead reading
CanDo (jobs.Steps task model) = ⊤
CanDo (jobs.Write answer) = 0 < length (text_of answer)
CanDo (jobs.Refuse refusal) = ⊤

-- how many sources are read at most
abbrev pub reads_of : Reading → ℕ
reads_of (readings.Reach request) = 2
reads_of (readings.Invariant request) = 3
reads_of (readings.Strengthen request selected) = 2
reads_of (readings.First request) = 2
reads_of reading = 1

abbrev pub sources_left : Job → ℕ
sources_left (jobs.Read reading) = reads_of reading
sources_left (jobs.Steps task model) = 0
sources_left (jobs.Write answer) = 0
sources_left (jobs.Refuse refusal) = 0
