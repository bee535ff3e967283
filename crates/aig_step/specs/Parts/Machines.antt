-- A circuit that is kept to be run.
use Rattle.std.specs.Prelude.{◌≡◌, ◌+◌, ℕ, List, [], None, length}
use Rattle.std.specs.List.{All, range_with_len}
use Rattle.aig_circuit.specs.declared.circuit.Latch.{Latch}
use Rattle.aig_circuit.specs.declared.circuit.Circuit.{Circuit}
use Rattle.aig_meaning.specs.Meaning.{latch_variables}
use Rattle.aig_step.specs.declared.evaluate.Pair.{Pair}
use Rattle.aig_step.specs.Parts.Tables.{AreOverLower, IsLiteralBelow, gates_from}

-- the circuit without what no row shows, and without gates
abbrev pub parts_of : Circuit → Circuit
parts_of c = record c {
  justice = record { sizes = []; literals = [] };
  fairness = [];
  gates = [];
  symbols = [];
  comment = None;
}

-- the first variable that a gate may define
abbrev pub first_gate : Circuit → ℕ
first_gate c = 1 + length c.inputs + length c.latches

-- the circuit of these parts, with gates of these operands
abbrev pub circuit_of : Circuit → List Pair → Circuit
circuit_of parts pairs = record parts { gates = gates_from (first_gate parts) pairs }

-- the literals whose values a row shows are over variables below a number
pub record ShowsBelow (size : ℕ) (c : Circuit) : Type 0 where
  pub outputs : All (IsLiteralBelow size) c.outputs
  pub next : All (λ (l : Latch). IsLiteralBelow size l.next) c.latches
  pub bad : All (IsLiteralBelow size) c.bad
  pub constraints : All (IsLiteralBelow size) c.constraints

-- The circuit is in binary order, and each literal is over a variable up to the largest.
pub record CanRun (parts : Circuit) (pairs : List Pair) : Type 0 where
  pub inputs : parts.inputs ≡ range_with_len 1 (length parts.inputs)
  pub latches : latch_variables parts ≡ range_with_len (1 + length parts.inputs) (length parts.latches)
  pub gates : AreOverLower (first_gate parts) pairs
  pub size : 1 + parts.max_var ≡ first_gate parts + length pairs
  pub below : ShowsBelow (1 + parts.max_var) parts
