use Rattle.std.proofs.Common.{◌∙◌, rules}
use Rattle.std.proofs.lemmas.Result.{err_from_is_err_and}
use Rattle.aig_core.proofs.Checking.Sections.{told_of_gates, gates_repeat, all_seen}
use Rattle.aig_core.proofs.checks.faults.definitions.Goals as goal

pub returns-in_err-in_order-clause-err : goal.returns-in_err-in_order-clause-err
returns-in_err-in_order-clause-err c =
    let h = err_from_is_err_and c.from_residual-in_err-in_order.result c.from_residual-in_err-in_order.ensures.1 in
    rw (h.1, h.2)
    (told_of_gates c.args.circuit.now _ c.in_ok-variables.ensures.variables c.in_ok-variables.ensures.ok _
    c.in_err-in_order.ensures.err)

pub returns-clause-variables : goal.returns-clause-variables
returns-clause-variables c =
    c.in_ok-in_order.ensures.seen
    ∙ all_seen c.args.circuit.now _ c.in_ok-variables.ensures.variables c.in_ok-variables.ensures.ok

pub returns-clause-ok : goal.returns-clause-ok
returns-clause-ok c =
    gates_repeat c.args.circuit.now _ c.in_ok-variables.ensures.variables c.in_ok-variables.ensures.ok
    ∙ c.in_ok-in_order.ensures.ok

pub returns-clause-in_order : goal.returns-clause-in_order
returns-clause-in_order c = search rules
