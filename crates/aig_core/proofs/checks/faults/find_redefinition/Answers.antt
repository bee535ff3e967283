use Rattle.aig_core.proofs.Checking.Sections.{gates_repeat}
use Rattle.aig_core.proofs.checks.faults.find_redefinition.Goals as goal

pub returns-clause-ok : goal.returns-clause-ok
returns-clause-ok c =
    rw (gates_repeat c.args.circuit.now _ c.in_ok-variables.ensures.variables c.in_ok-variables.ensures.ok)
    c.define_all.ensures.ok

pub returns-clause-err : goal.returns-clause-err
returns-clause-err c =
    rw (gates_repeat c.args.circuit.now _ c.in_ok-variables.ensures.variables c.in_ok-variables.ensures.ok)
    c.define_all.ensures.err
