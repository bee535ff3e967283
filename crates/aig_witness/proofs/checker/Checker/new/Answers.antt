use Rattle.std.proofs.Common.{rules, arith}
use Rattle.aig_witness.proofs.Witnessing.{same_bad}
use Rattle.aig_witness.proofs.checker.Checker.new.Goals as goal

pub returns-clause-bad : goal.returns-clause-bad
returns-clause-bad c = search (rules, same_bad)

pub returns-clause-few : goal.returns-clause-few
returns-clause-few c = omega (arith, returns-clause-bad c, c.circuit-circuit.ensures.well_formed.limits.literals.1.0)

pub invariant_of-result : goal.invariant_of-result
invariant_of-result c =
    (omega arith, omega (arith, returns-clause-bad c, c.circuit-circuit.ensures.well_formed.limits.literals.1.0))
