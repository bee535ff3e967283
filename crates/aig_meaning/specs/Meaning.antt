-- What a circuit means over 0, 1 and x: its equations hold. No order of evaluation occurs. (The usual meaning of a
-- circuit; the values of variable 0, FALSE, and of literals are the AIGER report's.)
use Rattle.std.specs.Prelude.{◌≡◌, ◌↔◌, ◌%◌, ◌==◌, ℕ, List, length, map, if◌then◌else◌}
use Rattle.std.specs.List.{Contains}
use Rattle.aig_circuit.specs.declared.circuit.Latch.{Latch}
use Rattle.aig_circuit.specs.declared.circuit.Gate.{Gate}
use Rattle.aig_circuit.specs.declared.circuit.Circuit.{Circuit}
use Rattle.aig_circuit.specs.declared.value.Val.{Val}
use Rattle.aig_circuit.specs.declared.value.Val.TheVariants.{Zero}
use Rattle.aig_circuit.specs.Literal.{variable_of}
use Rattle.aig_circuit.specs.Values.{value_and, value_not}

-- the value of a literal, where variables have these values
abbrev pub literal_value : (ℕ → Val) → ℕ → Val
literal_value a literal = if literal % 2 == 0 then a (variable_of literal) else value_not (a (variable_of literal))

-- the equation of a gate: its variable has the value of the `and` of its operands
abbrev pub Holds : (ℕ → Val) → Gate → Type 0
Holds a g = a g.var ≡ value_and (literal_value a g.left) (literal_value a g.right)

abbrev pub latch_variables : Circuit → List ℕ
latch_variables c = map (λ (l : Latch). l.var) c.latches

abbrev pub next_literals : Circuit → List ℕ
next_literals c = map (λ (l : Latch). l.next) c.latches

-- Values of the variables in one step: the inputs and the latches have those that are given, the constant is 0, and
-- the equation of each gate holds.
pub record IsStepAssignment (c : Circuit) (state given : List Val) (a : ℕ → Val) : Type 0 where
  pub constant : a 0 ≡ Zero
  pub inputs : map a c.inputs ≡ given
  pub latches : map a (latch_variables c) ≡ state
  pub gates : (g : Gate) → Contains c.gates g → Holds a g

-- what can be seen of one step, list by list in the circuit's order
pub record Row : Type 0 where
  pub state : List Val
  pub inputs : List Val
  pub outputs : List Val
  pub next : List Val
  pub bad : List Val
  pub constraints : List Val

-- the row is what these values show
pub record IsReadOff (c : Circuit) (row : Row) (a : ℕ → Val) : Type 0 where
  pub assigned : IsStepAssignment c row.state row.inputs a
  pub outputs_shown : row.outputs ≡ map (literal_value a) c.outputs
  pub next_shown : row.next ≡ map (literal_value a) (next_literals c)
  pub bad_shown : row.bad ≡ map (literal_value a) c.bad
  pub constraints_shown : row.constraints ≡ map (literal_value a) c.constraints

-- the row is one of the circuit's: a step assignment shows it
abbrev pub IsRow : Circuit → Row → Type 0
IsRow c row = (a : ℕ → Val) × IsReadOff c row a

-- Two circuits mean the same: they have as many inputs, latches that start alike, and the same rows. Justice,
-- fairness, names, and which gates there are, are no part of it.
pub record MeansTheSame (c d : Circuit) : Type 0 where
  pub inputs : length d.inputs ≡ length c.inputs
  pub resets : map (λ (l : Latch). l.reset) d.latches ≡ map (λ (l : Latch). l.reset) c.latches
  pub rows : (row : Row) → IsRow c row ↔ IsRow d row
