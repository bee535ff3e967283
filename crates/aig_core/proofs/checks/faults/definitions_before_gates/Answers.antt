use Rattle.std.proofs.Common.{rules}
use Rattle.std.proofs.lemmas.Result.{err_from_is_err_and}
use Rattle.aig_core.proofs.Checking.Sections.{told_of_inputs, told_of_latches, all_before, none_before}
use Rattle.aig_core.proofs.checks.faults.definitions_before_gates.Goals as goal

pub returns-in_err-define_all-clause-err : goal.returns-in_err-define_all-clause-err
returns-in_err-define_all-clause-err c =
    let h = err_from_is_err_and c.from_residual-in_err-define_all.result c.from_residual-in_err-define_all.ensures.1 in
    rw (h.1, h.2)
    (told_of_inputs c.args.circuit.now _ (rw (← c.in_ok-variables.ensures) c.in_err-define_all.ensures.err))

pub returns-in_err-define_all-2-clause-err : goal.returns-in_err-define_all-2-clause-err
returns-in_err-define_all-2-clause-err c =
    let h = err_from_is_err_and c.from_residual-in_err-define_all-2.result
    c.from_residual-in_err-define_all-2.ensures.1 in
    rw (h.1, h.2)
    (told_of_latches c.args.circuit.now _
    (rw (← c.in_ok-variables.ensures) c.in_ok-define_all.ensures.seen)
    (rw (← c.in_ok-variables.ensures) c.in_ok-define_all.ensures.ok)
    _ c.in_err-define_all-2.ensures.err)

pub returns-clause-variables : goal.returns-clause-variables
returns-clause-variables c = search (rules, all_before)

pub returns-clause-ok : goal.returns-clause-ok
returns-clause-ok c = search (rules, none_before)
