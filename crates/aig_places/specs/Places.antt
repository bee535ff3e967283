-- Places of a table for the variables of a circuit.
use Rattle.std.specs.Prelude.{◌≡◌, ◌≢◌, ◌+◌, ◌%◌, ◌<◌, ◌≤◌, ℕ, List, [], ◌∷◌, None, length, map, option_map}
use Rattle.std.specs.Prelude.{slice_index_or, slice_set, unwrap_or}
use Rattle.std.specs.List.{All}
use Rattle.aig_circuit.specs.declared.circuit.Circuit.{Circuit}
use Rattle.aig_circuit.specs.declared.circuit.Gate.{Gate}
use Rattle.aig_circuit.specs.declared.value.Val.{Val}
use Rattle.aig_circuit.specs.declared.value.Val.TheVariants.{Zero}
use Rattle.aig_circuit.specs.Literal.{variable_of}
use Rattle.aig_circuit.specs.Values.{value_and}
use Rattle.aig_meaning.specs.Meaning.{IsStepAssignment, literal_value}
use Rattle.aig_places.specs.declared.places.Places.{Places}
use Rattle.aig_step.specs.declared.evaluate.Pair.{Pair}
use Rattle.aig_step.specs.Parts.Tables.{IsLiteralBelow, evaluated, placed, read_from}

-- the table with the values of gates, whose variables are places
abbrev pub evaluated_in_turn : List Gate → List Val → List Val
evaluated_in_turn [] values = values
evaluated_in_turn (g ∷ gs) values =
    evaluated_in_turn gs (slice_set values g.var
    (value_and (literal_value (read_from values) g.left) (literal_value (read_from values) g.right)))

-- the place and the operands of a gate are below a number
pub record IsGateBelow (size : ℕ) (g : Gate) : Type 0 where
  pub place : g.var < size
  pub left : IsLiteralBelow size g.left
  pub right : IsLiteralBelow size g.right

-- the gates over places: the circuit's own, where each variable has the place of its number
abbrev pub gates_of : Circuit → Places → List Gate
gates_of c places = unwrap_or (option_map (λ gates. gates.items) places.gates) c.gates

-- they are places for a circuit
pub record ArePlaces (c : Circuit) (places : Places) : Type 0 where
  pub room : 1 + length c.inputs + length c.latches ≤ places.count
  pub gates : All (IsGateBelow places.count) (gates_of c places)
  pub few : places.count ≤ 1 + c.max_var
  pub own : places.gates ≡ None → places.count ≡ 1 + c.max_var

-- in a table literals over places have the values that literals over variables have in a step
pub record AreSeen (c : Circuit) (state given : List Val) (literals seen : List ℕ) (values : List Val) : Type 0 where
  pub value : ℕ → Val
  pub is_step : IsStepAssignment c state given value
  pub same : map (literal_value (read_from values)) seen ≡ map (literal_value value) literals

-- a table with the constant, the inputs and the state, before the gates are evaluated
abbrev pub begun_with : (given state : List Val) → List Val → List Val
begun_with given state values = placed (1 + length given) state (placed 1 given (slice_set values 0 Zero))

-- In each step literals over places have the values that literals over variables have, where each variable has its own.
pub record StandFor (c : Circuit) (places : Places) (literals seen : List ℕ) : Type 0 where
  pub count : length seen ≡ length literals
  pub below : All (IsLiteralBelow places.count) seen
  pub same : (state given values own : List Val) → length state ≡ length c.latches → length given ≡ length c.inputs
      → length values ≡ places.count → length own ≡ 1 + c.max_var
      → map (literal_value (read_from (evaluated_in_turn (gates_of c places) (begun_with given state values)))) seen
      ≡ map (literal_value (read_from (evaluated_in_turn c.gates (begun_with given state own)))) literals

-- The search for places. There a list tells which variable stands at each place.

-- a literal over places is over the place of its variable
pub record StandsAt (holders : List ℕ) (seen literal : ℕ) : Type 0 where
  pub below : IsLiteralBelow (length holders) seen
  pub variable : slice_index_or holders (variable_of seen) 0 ≡ variable_of literal
  pub sign : seen % 2 ≡ literal % 2

-- a variable takes a place, which may be a new one
pub record Takes (before after : List ℕ) (place variable : ℕ) : Type 0 where
  pub below : place < length after
  pub more : length before ≤ length after
  pub here : slice_index_or after place 0 ≡ variable
  pub others : (p : ℕ) → p < length after → p ≢ place
      → (p < length before) × (slice_index_or after p 0 ≡ slice_index_or before p 0)

-- the gate of a variable takes a place, and is over those of its operands
pub record IsPlaced (variable : ℕ) (pair : Pair) (before after : List ℕ) (gate : Gate) : Type 0 where
  pub left : StandsAt before gate.left pair.left
  pub right : StandsAt before gate.right pair.right
  pub takes : Takes before after gate.var variable

-- each place has the value of the variable that stands there
abbrev pub Hold : (holders : List ℕ) → (values all : List Val) → Type 0
Hold holders values all = (p : ℕ) → p < length holders → read_from values p ≡ read_from all (slice_index_or holders p 0)

-- gates have places, and in a table these have the values of the gates' variables
pub record ArePlaced (first : ℕ) (pairs : List Pair) (before after : List ℕ) (gates : List Gate) : Type 0 where
  pub more : length before ≤ length after
  pub below : All (IsGateBelow (length after)) gates
  pub hold : (values all : List Val) → length after ≤ length values → first + length pairs ≤ length all
      → Hold before values all → Hold after (evaluated_in_turn gates values) (evaluated first pairs all)
