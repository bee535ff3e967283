use Rattle.std.proofs.Common.{◌≡◌, drop, flat_map}
use Rattle.std.specs.FinSet as set
use Rattle.aig_circuit.specs.Wellformed.{defined_variables, operands}
use Rattle.aig_core.specs.Fault.{first_unknown, with_all}
use Rattle.aig_core.proofs.checks.faults.first_unknown_operand.Given as goal

abbrev pub invariant-loop-at : goal.invariant-loop-at
invariant-loop-at l =
    first_unknown (with_all set.empty (defined_variables l.circuit)) (flat_map operands (drop l.at l.circuit.gates))
    ≡ first_unknown (with_all set.empty (defined_variables l.circuit)) (flat_map operands l.circuit.gates)
