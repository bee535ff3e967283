-- How lines are read and written.
use Rattle.std.specs.Prelude.{◌+◌, ◌==◌, ℕ, List, None, Option, length, map, if◌then◌else◌}
use Rattle.aig_circuit.specs.declared.circuit.Circuit.{Circuit}
use Rattle.aig_circuit.specs.declared.value.Val.{Val}
use Rattle.aig_meaning.specs.Meaning.{Row, literal_value, next_literals}
use Rattle.aig_step.specs.Stimulus.{values_of}

-- the values that a text says, where there are so many inputs
abbrev pub vector_in : ℕ → List ℕ → Option (List Val)
vector_in inputs text = if length text == inputs then values_of text else None

-- the row that values show, with this state and these inputs
abbrev pub row_read : Circuit → List Val → List Val → (ℕ → Val) → Row
row_read c state inputs a = record {
  state = state;
  inputs = inputs;
  outputs = map (literal_value a) c.outputs;
  next = map (literal_value a) (next_literals c);
  bad = map (literal_value a) c.bad;
  constraints = map (literal_value a) c.constraints;
}

-- how many values the rows of a circuit have, and what stands between them
abbrev pub line_size : Circuit → ℕ
line_size c =
    length c.latches + length c.inputs + length c.outputs + length c.latches + length c.bad
    + length c.constraints + 6
