-- What a selection shows of a run of its source.
use Rattle.std.specs.Prelude.{ℕ, List, Bool}
use Rattle.aig_circuit.specs.declared.circuit.Circuit.{Circuit}
use Rattle.aig_circuit.specs.declared.value.Val.{Val}
use Rattle.aig_meaning.specs.Meaning.{Row}
use Rattle.aig_select.specs.declared.choice.Choice.{Choice}
use Rattle.aig_select.specs.Staying.{staying}
use Rattle.aig_select.specs.Selection.{input_marks, latch_marks}

-- the state and the inputs of what stays
abbrev pub state_left : (ℕ → Bool) → Circuit → List Val → List Val
state_left keeps c state = staying (latch_marks keeps c) state

abbrev pub inputs_left : (ℕ → Bool) → Circuit → List Val → List Val
inputs_left keeps c given = staying (input_marks keeps c) given

-- a row without what does not stay
abbrev pub row_left : Choice → (ℕ → Bool) → Circuit → Row → Row
row_left choice keeps c row = record {
  state = state_left keeps c row.state;
  inputs = inputs_left keeps c row.inputs;
  outputs = staying choice.outputs row.outputs;
  next = state_left keeps c row.next;
  bad = staying choice.bad row.bad;
  constraints = row.constraints;
}
