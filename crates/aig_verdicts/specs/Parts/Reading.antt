-- How far a witness file of either kind was read. Only private functions cite this.
use Rattle.std.specs.Prelude.{◌≡◌, ◌⊎◌, ◌<◌, ◌++◌, ℕ, List, [], ◌∷◌, Bool, true, false, Option, None, Some, IfSome}
use Rattle.std.specs.Prelude.{Result, ◌≤◌, Ok, Err, if◌then◌else◌, length, max}
use Rattle.aig_circuit.specs.declared.circuit.Circuit.{Circuit}
use Rattle.aig_circuit.specs.declared.value.Val.{Val}
use Rattle.aig_fault.specs.declared.stopped.Stopped.{Stopped}
use Rattle.aig_fault.specs.declared.stopped.Stopped.TheVariants as stops
use Rattle.aig_io.specs.Runs.{AtEnd, Broken, Ending, IsUnbroken, is_at_end}
use Rattle.aig_lasso.specs.Goaled.{HasTooManyGoals}
use Rattle.aig_lasso.specs.Runs.{StartedRun, run_from}
use Rattle.aig_lines.specs.Feeding.{Turn, turn}
use Rattle.aig_meaning.specs.Meaning.{MeansTheSame}
use Rattle.aig_step.specs.Parts.Lines.{vector_in}
use Rattle.aig_step.specs.Stimulus.{Stop, entry_in}
use Rattle.aig_verdicts.specs.Comments.{begins_with, is_comment, uncommented}
use Rattle.aig_verdicts.specs.Kinds.{first_bad_by, is_of_justice, shape_by, shape_if}
use Rattle.aig_verdicts.specs.declared.comment.TheConstants.{LONGEST_COMMENT}
use Rattle.aig_verdicts.specs.declared.reader.Stage.{Stage}
use Rattle.aig_verdicts.specs.declared.reader.Stage.TheVariants as stage
use Rattle.aig_witness.specs.Confirming.{bad_witness}
use Rattle.aig_witness.specs.Parts.Witnessing.{StandsWhen, Witnessing, longest_line}
use Rattle.aig_witness.specs.Witness.{Claim, Nothing, Property, Said, Says, Shape, Steps, Version, Whole}
use Rattle.aig_witness.specs.Witness.{first_state_in, property_by, said_with, shape_of}
use Rattle.aig_witness.specs.declared.checker.Due.TheVariants as due

-- what reads: the checker of a bad state, how many justice properties there are, which lines are due, and what was said
-- of one of them so far
pub record Reading : Type 0 where
  pub checker : Witnessing
  pub justices : ℕ
  pub stage : Stage
  pub property : ℕ
  pub held : Option StartedRun

-- the run that is claimed, where each step has so many inputs
abbrev pub run_of : ℕ → Claim → StartedRun
run_of inputs claim = record { inputs = inputs; first = claim.first; steps = claim.steps }

-- the claim is of the property of this number, and of a run with this first state and these steps
pub record IsOfClaim (number : ℕ) (claim : Claim) (run : StartedRun) : Type 0 where
  pub property : claim.property ≡ number
  pub first : run.first ≡ claim.first
  pub steps : run.steps ≡ claim.steps

-- why a run is not judged
abbrev pub NotJudged : ℕ → Circuit → Stopped → Type 0
NotJudged property c stops.OutOfMemory = Unit {0}
NotJudged property c (stops.Refused fault) =
    HasTooManyGoals property c fault ⊎ (length c.justice.sizes ≤ property)
NotJudged property c stops.ReadFailed = ⊥
NotJudged property c stops.WriteFailed = ⊥

-- the claim is held, if anything is
pub record HoldsClaim (r : Reading) (claim : Claim) : Type 0 where
  pub property : r.property ≡ claim.property
  pub below : claim.property < r.justices
  pub held : IfSome r.held (λ run. run ≡ run_of (length r.checker.circuit.inputs) claim)

-- where it stands when this was said of a bad state
pub record StandsAtBad (r : Reading) (said : Said) : Type 0 where
  pub stage : r.stage ≡ stage.BadState
  pub stands : StandsWhen r.checker said

-- where it stands when this was said, by a file of a justice property or of a bad state
abbrev pub StandsIn : Reading → Bool → Said → Type 0
StandsIn r false said = StandsAtBad r said
StandsIn r true Nothing = ⊥
StandsIn r true Version = ⊥
StandsIn r true (Property property) =
    (r.stage ≡ stage.FirstState) × (r.property ≡ property) × (property < r.justices)
StandsIn r true (Steps claim) = (r.stage ≡ stage.Steps) × HoldsClaim r claim
StandsIn r true (Whole claim) = (r.stage ≡ stage.Nothing) × HoldsClaim r claim

-- no line was read
abbrev pub IsBegun : Reading → Type 0
IsBegun r = StandsAtBad r Nothing

-- no line is due
abbrev pub IsDone : Reading → Type 0
IsDone r = ((r.stage ≡ stage.BadState) × (r.checker.due ≡ due.Nothing)) ⊎ (r.stage ≡ stage.Nothing)

-- the circuit, how many justice properties there are, whether the file is of one of them, and what its lines say so far
pub record ReadingState : Type 0 where
  pub circuit : Circuit
  pub justices : ℕ
  pub justice : Bool
  pub said : Said

abbrev pub reading_state : Circuit → ℕ → Bool → Said → ReadingState
reading_state c justices justice said = record { circuit = c; justices = justices; justice = justice; said = said }

-- whether the file is of a justice property, with one more line of this text
abbrev pub kind_with : Bool → Said → List ℕ → Bool
kind_with justice Nothing text = justice
kind_with justice Version text = begins_with 106 text
kind_with justice (Property property) text = justice
kind_with justice (Steps claim) text = justice
kind_with justice (Whole claim) text = justice

-- what is said then, if anything is
abbrev pub said_in : Circuit → ℕ → Bool → Said → List ℕ → Option Said
said_in c justices justice said text = said_with (shape_if justices c (kind_with justice said text)) said text

abbrev pub reading_turn : ReadingState → Bool → Option Said → Turn ReadingState
reading_turn h kind None = turn h false
reading_turn h kind (Some next) = turn (reading_state h.circuit h.justices kind next) true

-- what one more line of this text comes to
abbrev pub reading_step : ReadingState → List ℕ → Turn ReadingState
reading_step h text =
    reading_turn h (kind_with h.justice h.said text) (said_in h.circuit h.justices h.justice h.said text)

-- the same, where comments are passed over
abbrev pub file_step : ReadingState → List ℕ → Turn ReadingState
file_step h text = if is_comment text then turn h true else reading_step h text

-- how long a line may be: none that is due is longer, and no comment
abbrev pub longest_file_line : Shape → ℕ
longest_file_line shape = max (longest_line shape) LONGEST_COMMENT

-- what reads stands there
pub record IsReading (r : Reading) (h : ReadingState) : Type 0 where
  pub circuit : r.checker.circuit ≡ h.circuit
  pub justices : r.justices ≡ h.justices
  pub stands : StandsIn r h.justice h.said

-- it is of the same circuit
pub record IsSame (before after : Reading) : Type 0 where
  pub circuit : after.checker.circuit ≡ before.checker.circuit
  pub justices : after.justices ≡ before.justices

-- what became of a line with which this is said, or nothing
abbrev pub TookLine : (before after : Reading) → (justice kind : Bool) → Said → Bool → Option Said → Type 0
TookLine before after justice kind said result None =
    (result ≡ false) × IsSame before after × StandsIn after justice said
TookLine before after justice kind said result (Some next) =
    (result ≡ true) × IsSame before after × StandsIn after kind next

-- a line of this text came, after this was said
abbrev pub TookAs : (before after : Reading) → List ℕ → Bool → Said → Bool → Type 0
TookAs before after text justice said result = StandsIn before justice said
    → TookLine before after justice (kind_with justice said text) said result
    (said_in before.checker.circuit before.justices justice said text)

-- the line was taken that names a justice property
pub record TookProperty (before after : Reading) (text : List ℕ) : Type 0 where
  pub property : ℕ
  pub said : property_by 106 before.justices text ≡ Some property
  pub leads : after ≡ record before { stage = stage.FirstState; property = property }

-- the line of the first state was taken
pub record TookFirstState (before after : Reading) (text : List ℕ) : Type 0 where
  pub first : List Val
  pub said : first_state_in (shape_of before.checker.circuit).resets text ≡ Some first
  pub same : IsSame before after
  pub stage : after.stage ≡ stage.Steps
  pub property : after.property ≡ before.property
  pub held : IfSome after.held (λ run. run ≡ run_from (length before.checker.circuit.inputs) first)

abbrev pub with_step : Claim → List Val → Claim
with_step claim given = record claim { steps = claim.steps ++ (given ∷ []) }

-- a step was taken with the inputs that a text says
pub record TookStep (before after : Reading) (text : List ℕ) : Type 0 where
  pub given : List Val
  pub said : vector_in (length before.checker.circuit.inputs) text ≡ Some given
  pub same : IsSame before after
  pub stage : after.stage ≡ before.stage
  pub property : after.property ≡ before.property
  pub held : (claim : Claim)
      → IfSome before.held (λ run. run ≡ run_of (length before.checker.circuit.inputs) claim)
      → IfSome after.held (λ run. run ≡ run_of (length before.checker.circuit.inputs) (with_step claim given))

-- the line of a step was taken, or the line `.`
abbrev pub TookEntry : (before after : Reading) → List ℕ → Type 0
TookEntry before after text =
    TookStep before after text
    ⊎ ((entry_in (length before.checker.circuit.inputs) text ≡ Some Stop)
    × (after ≡ record before { stage = stage.Nothing }))

-- a whole file without comments was read, and what it claims is as it stands
pub record IsRead (c : Circuit) (justices : ℕ) (r : Reading) (bytes : List ℕ) : Type 0 where
  pub claim : Claim
  pub says : Says (shape_by justices c bytes true) bytes claim
  pub same : IsReading r (reading_state c justices (is_of_justice bytes true) (Whole claim))

-- what the answer of reading a file says
abbrev pub FileSays : Circuit → ℕ → Reading → Result (Unit {0}) Stopped → List ℕ → Ending → Type 0
FileSays c justices r (Ok done) bytes ending = (ending ≡ AtEnd) × IsRead c justices r (uncommented bytes)
FileSays c justices r (Err stops.OutOfMemory) bytes ending = ⊥
FileSays c justices r (Err (stops.Refused fault)) bytes ending =
    (number : ℕ) × (fault ≡ bad_witness number) × IsUnbroken ending
    × (first_bad_by justices c bytes (is_at_end ending) ≡ Some number)
FileSays c justices r (Err stops.ReadFailed) bytes ending =
    (ending ≡ Broken) × (first_bad_by justices c bytes false ≡ None)
FileSays c justices r (Err stops.WriteFailed) bytes ending = ⊥

-- the circuits mean the same, and have as many bad states
pub record IsLike (c d : Circuit) : Type 0 where
  pub means : MeansTheSame c d
  pub bad : length d.bad ≡ length c.bad

-- it is a file of this circuit, as it is like the one that was followed
pub record IsReadOf (c : Circuit) (r : Reading) (bytes : List ℕ) : Type 0 where
  pub circuit : Circuit
  pub like : IsLike c circuit
  pub read : IsRead circuit (length c.justice.sizes) r (uncommented bytes)
