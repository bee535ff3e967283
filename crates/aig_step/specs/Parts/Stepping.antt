-- What runs a circuit step by step.
use Rattle.std.specs.Prelude.{◌≡◌, List, map}
use Rattle.aig_circuit.specs.declared.circuit.Circuit.{Circuit}
use Rattle.aig_circuit.specs.declared.value.Val.{Val}
use Rattle.aig_meaning.specs.Meaning.{IsStepAssignment, Row}
use Rattle.aig_step.specs.Parts.Lines.{row_read}
use Rattle.aig_step.specs.Parts.Tables.{read_from}

-- the circuit, the state before its next step, and the values of its last step
pub record Stepping : Type 0 where
  pub circuit : Circuit
  pub state : List Val
  pub values : List Val

-- a step with these inputs was evaluated
pub record Evaluated (before after : Stepping) (given : List Val) : Type 0 where
  pub assigned : IsStepAssignment before.circuit before.state given (read_from after.values)
  pub stays : after ≡ record before { values = after.values }

-- the step that was evaluated last, in the state before it, as a row
abbrev pub row_of : Stepping → Row
row_of s = row_read s.circuit s.state (map (read_from s.values) s.circuit.inputs) (read_from s.values)

-- in the state after the last step
abbrev pub in_next_state : Stepping → Stepping
in_next_state s = record s { state = (row_of s).next }
