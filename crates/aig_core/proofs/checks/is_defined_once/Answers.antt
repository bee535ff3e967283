use Rattle.aig_core.proofs.Checking.Faultless.{told_once, told_twice}
use Rattle.aig_circuit.specs.Wellformed.{defined_variables}
use Rattle.aig_core.proofs.checks.is_defined_once.Goals as goal

pub returns-in-Ok : goal.returns-in-Ok
returns-in-Ok c = told_once (defined_variables c.args.circuit.now) c.in-Ok.ensures.ok

pub returns-in-Err-Refused : goal.returns-in-Err-Refused
returns-in-Err-Refused c =
    told_twice _ (defined_variables c.args.circuit.now)
    (rw c.in-Err-Refused.field-0-is at c.in-Err-Refused.ensures.err)
