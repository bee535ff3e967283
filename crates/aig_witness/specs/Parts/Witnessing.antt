-- How far a witness file was judged. Only private functions cite this.
use Rattle.std.specs.Prelude.{◌≡◌, ◌⊎◌, ◌+◌, ◌<◌, ◌&&◌, ℕ, List, Bool, true, false, Option, None, Some}
use Rattle.std.specs.Prelude.{is_none, length, map, max, nat_lt, slice_index_or, if◌then◌else◌}
use Rattle.std.specs.List.{All, list_all}
use Rattle.aig_circuit.specs.declared.circuit.Circuit.{Circuit}
use Rattle.aig_circuit.specs.declared.value.Val.{Val}
use Rattle.aig_circuit.specs.declared.value.Val.TheVariants.{Zero, One, X}
use Rattle.aig_meaning.specs.Meaning.{IsStepAssignment, Row, literal_value, next_literals}
use Rattle.aig_meaning.specs.Trace.{IsTrace, state_after}
use Rattle.aig_lines.specs.Feeding.{Turn, turn}
use Rattle.aig_rows.specs.Spelling.{is_digit, value_of as number_of}
use Rattle.aig_witness.specs.declared.checker.Due.{Due}
use Rattle.aig_witness.specs.declared.checker.Due.TheVariants as due
use Rattle.aig_witness.specs.declared.search.StepSearch.{StepSearch}
use Rattle.aig_witness.specs.declared.verdict.Verdict.{Verdict}
use Rattle.aig_witness.specs.declared.verdict.Verdict.TheVariants.{Confirmed, NotConfirmed}
use Rattle.aig_witness.specs.Witness.{Claim, IsHeld, IsVerdictOf, Nothing, Property, Said, Shape, Steps, Version, Whole}
use Rattle.aig_witness.specs.Witness.{first_state_in, property_in, said_with, shape_of}
use Rattle.aig_step.specs.Stimulus.{Stop, entry_in}
use Rattle.aig_step.specs.Parts.Lines.{vector_in}

abbrev pub is_one : Val → Bool
is_one One = true
is_one Zero = false
is_one X = false

abbrev pub are_ones : List Val → Bool
are_ones values = list_all is_one values

-- the search, with one more step that was looked at: whether the bad state is 1 there, and whether all constraints are
abbrev pub looked : StepSearch → Bool → Bool → StepSearch
looked s is_bad hold = record {
  literal = s.literal;
  steps = s.steps + 1;
  holds = s.holds && hold;
  found = if (is_none s.found && (s.holds && hold)) && is_bad then Some s.steps else s.found;
}

abbrev pub verdict_of : Option ℕ → Verdict
verdict_of None = NotConfirmed
verdict_of (Some at) = Confirmed at

-- the number that digits spell, where there are but digits and it is below this bound
abbrev pub digits_below : ℕ → List ℕ → Option ℕ
digits_below bound text =
    if list_all is_digit text && nat_lt (number_of text) bound then Some (number_of text) else None

-- what judges the lines of a witness file: the circuit, which line is due, the state before the next step, and what was
-- found so far
pub record Witnessing : Type 0 where
  pub circuit : Circuit
  pub due : Due
  pub state : List Val
  pub search : StepSearch

-- a step was taken with the inputs that a text says, and was looked at
pub record StepTaken (before after : Witnessing) (text : List ℕ) : Type 0 where
  pub given : List Val
  pub values : ℕ → Val
  pub said : vector_in (length before.circuit.inputs) text ≡ Some given
  pub assigned : IsStepAssignment before.circuit before.state given values
  pub leads : after ≡ record {
    circuit = before.circuit;
    due = before.due;
    state = map (literal_value values) (next_literals before.circuit);
    search = looked before.search (is_one (literal_value values before.search.literal))
        (are_ones (map (literal_value values) before.circuit.constraints));
  }

-- the line was taken that names a bad state
pub record TookProperty (before after : Witnessing) (text : List ℕ) : Type 0 where
  pub property : ℕ
  pub said : property_in (length before.circuit.bad) text ≡ Some property
  pub leads : after ≡ record before {
    due = due.FirstState;
    search = record before.search { literal = slice_index_or before.circuit.bad property 0 };
  }

-- the line of the first state was taken
pub record TookFirstState (before after : Witnessing) (text : List ℕ) : Type 0 where
  pub first : List Val
  pub said : first_state_in (shape_of before.circuit).resets text ≡ Some first
  pub leads : after ≡ record before { due = due.Steps; state = first }

-- the line of a step was taken, or the line `.`
abbrev pub TookEntry : (before after : Witnessing) → List ℕ → Type 0
TookEntry before after text =
    StepTaken before after text
    ⊎ ((entry_in (length before.circuit.inputs) text ≡ Some Stop) × (after ≡ record before { due = due.Nothing }))

-- no step was looked at
pub record IsUnbegun (s : StepSearch) : Type 0 where
  pub steps : s.steps ≡ 0
  pub holds : s.holds ≡ true
  pub found : s.found ≡ None

-- what is looked for is this bad state
pub record Seeks (w : Witnessing) (property : ℕ) : Type 0 where
  pub below : property < length w.circuit.bad
  pub literal : w.search.literal ≡ slice_index_or w.circuit.bad property 0

-- what was found in these rows
pub record TellsRows (property : ℕ) (rows : List Row) (s : StepSearch) : Type 0 where
  pub steps : s.steps ≡ length rows
  pub held : s.holds ≡ true → All IsHeld rows
  pub broken : s.holds ≡ false → ¬ All IsHeld rows
  pub found : IsVerdictOf property rows (verdict_of s.found)

-- the claim was followed step by step
pub record Follows (w : Witnessing) (claim : Claim) : Type 0 where
  pub seeks : Seeks w claim.property
  pub rows : List Row
  pub trace : IsTrace w.circuit claim.first claim.steps rows
  pub state : w.state ≡ state_after claim.first rows
  pub tells : TellsRows claim.property rows w.search

-- where it stands when this was said
abbrev pub StandsWhen : Witnessing → Said → Type 0
StandsWhen w Nothing = (w.due ≡ due.Version) × IsUnbegun w.search
StandsWhen w Version = (w.due ≡ due.Property) × IsUnbegun w.search
StandsWhen w (Property property) = (w.due ≡ due.FirstState) × IsUnbegun w.search × Seeks w property
StandsWhen w (Steps claim) = (w.due ≡ due.Steps) × Follows w claim
StandsWhen w (Whole claim) = (w.due ≡ due.Nothing) × Follows w claim

-- a line of this text was taken, after what was said before
pub record TookDue (before after : Witnessing) (said : Said) (text : List ℕ) : Type 0 where
  pub next : Said
  pub is : said_with (shape_of before.circuit) said text ≡ Some next
  pub stands : StandsWhen after next
  pub circuit : after.circuit ≡ before.circuit

-- a line of this text is not due, after what was said before, and that still stands
pub record NotDue (before after : Witnessing) (said : Said) (text : List ℕ) : Type 0 where
  pub none : said_with (shape_of before.circuit) said text ≡ None
  pub stands : StandsWhen after said
  pub circuit : after.circuit ≡ before.circuit

-- how long a line may be: none that is due is longer
abbrev pub longest_line : Shape → ℕ
longest_line shape = max (max (length shape.resets) shape.inputs) 12

-- the circuit, and what the lines so far say
pub record WitnessState : Type 0 where
  pub circuit : Circuit
  pub said : Said

abbrev pub witness_state : Circuit → Said → WitnessState
witness_state c said = record { circuit = c; said = said }

-- with what is said then, if anything is
abbrev pub said_turn : Circuit → Said → Option Said → Turn WitnessState
said_turn c said None = turn (witness_state c said) false
said_turn c said (Some next) = turn (witness_state c next) true

-- what one more line of this text comes to
abbrev pub witness_step : WitnessState → List ℕ → Turn WitnessState
witness_step h text = said_turn h.circuit h.said (said_with (shape_of h.circuit) h.said text)

-- what judges lines stands where this was said
abbrev pub HasWitnessState : Witnessing → WitnessState → Type 0
HasWitnessState w h = (w.circuit ≡ h.circuit) × StandsWhen w h.said
