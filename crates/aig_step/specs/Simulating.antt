-- What a simulator is and what a step does (the usual meaning of a circuit).
use Rattle.std.specs.Prelude.{◌≡◌, List, Option, None, Some}
use Rattle.aig_circuit.specs.declared.circuit.Circuit.{Circuit}
use Rattle.aig_circuit.specs.declared.value.Val.{Val}
use Rattle.aig_meaning.specs.Meaning.{IsRow, Row}
use Rattle.aig_meaning.specs.Trace.{reset_state}

-- a simulator: the circuit that it runs, the state before its next step, and what its last step since the reset shows
pub record Simulation : Type 0 where
  pub circuit : Circuit
  pub state : List Val
  pub row : Option Row

-- it is in the reset state, and no step was taken since
pub record IsReset (s : Simulation) : Type 0 where
  pub state : s.state ≡ reset_state s.circuit
  pub no_row : s.row ≡ None

-- A step was taken: it shows a row of the circuit, from the state before it and with these inputs; the row's next state
-- is the state after it.
pub record Stepped (before after : Simulation) (given : List Val) : Type 0 where
  pub row : Row
  pub shown : after.row ≡ Some row
  pub is_row : IsRow before.circuit row
  pub from : row.state ≡ before.state
  pub inputs : row.inputs ≡ given
  pub state : after.state ≡ row.next
  pub circuit : after.circuit ≡ before.circuit
