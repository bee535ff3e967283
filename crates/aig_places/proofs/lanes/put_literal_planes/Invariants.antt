use Rattle.std.specs.Prelude.{◌≡◌, ◌++◌, ℕ, List, length, map, take, drop}
use Rattle.aig_circuit.specs.declared.value.Val.{Val}
use Rattle.aig_meaning.specs.Meaning.{literal_value}
use Rattle.aig_places.specs.Lanes.{IsLane}
use Rattle.aig_step.specs.Parts.Tables.{read_from}
use Rattle.aig_places.proofs.lanes.put_literal_planes.Given as goal

abbrev pub invariant-loop-i : goal.invariant-loop-i
invariant-loop-i l = record {
  lanes : (k : ℕ) (values before : List Val) → IsLane k l.planes values → IsLane k l.fn.state before
      → IsLane k l.state
      (take l.i (map (literal_value (read_from values)) l.literals) ++ drop l.i before);
  size : length l.state ≡ length l.fn.state;
}
