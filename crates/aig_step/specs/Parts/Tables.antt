-- Tables of values, in which each variable has the place of its number, and how they are filled.
use Rattle.std.specs.Prelude.{◌+◌, ◌<◌, ℕ, List, [], ◌∷◌, slice_index_or, slice_set}
use Rattle.aig_circuit.specs.declared.circuit.Gate.{Gate}
use Rattle.aig_circuit.specs.declared.value.Val.{Val}
use Rattle.aig_circuit.specs.declared.value.Val.TheVariants.{Zero}
use Rattle.aig_circuit.specs.Literal.{variable_of}
use Rattle.aig_circuit.specs.Values.{value_and}
use Rattle.aig_meaning.specs.Meaning.{literal_value}
use Rattle.aig_step.specs.declared.evaluate.Pair.{Pair}

-- the operands of a gate
abbrev pub pair_of : Gate → Pair
pair_of g = record { left = g.left; right = g.right }

-- the value of each variable
abbrev pub read_from : List Val → ℕ → Val
read_from values v = slice_index_or values v Zero

-- the table with these values, from this place on
abbrev pub placed : ℕ → List Val → List Val → List Val
placed at [] values = values
placed at (x ∷ xs) values = placed (at + 1) xs (slice_set values at x)

-- the table with the values of gates that have these operands and the variables from this one on
abbrev pub evaluated : ℕ → List Pair → List Val → List Val
evaluated v [] values = values
evaluated v (p ∷ ps) values =
    evaluated (v + 1) ps (slice_set values v
    (value_and (literal_value (read_from values) p.left) (literal_value (read_from values) p.right)))

-- the gates with these operands and the variables from this one on
abbrev pub gates_from : ℕ → List Pair → List Gate
gates_from v [] = []
gates_from v (p ∷ ps) = record { var = v; left = p.left; right = p.right } ∷ gates_from (v + 1) ps

-- the operands of each of them are over lower variables
abbrev pub AreOverLower : ℕ → List Pair → Type 0
AreOverLower v [] = Unit {0}
AreOverLower v (p ∷ ps) = (variable_of p.left < v) × (variable_of p.right < v) × AreOverLower (v + 1) ps

-- the variables of these operands are below a number
pub record IsPairBelow (size : ℕ) (p : Pair) : Type 0 where
  pub left : variable_of p.left < size
  pub right : variable_of p.right < size

abbrev pub IsLiteralBelow : ℕ → ℕ → Type 0
IsLiteralBelow size literal = variable_of literal < size
