use Rattle.std.proofs.Common.{rules}
use Rattle.aig_io.proofs.Runs.{read_none}
use Rattle.aig_commands.proofs.Refutings.{cut_refutation_read, refutation_read}
use Rattle.aig_commands.proofs.refuting.check_clauses_of.Goals as goal

pub returns-then-not-request : goal.returns-then-not-request
returns-then-not-request g c =
    refutation_read c.args.request.now _ c.args.refuted.now c.requires.refuted c.if-not-request.true
    c.check_refutation.result _ _
    (rw (c.circuit-circuit.ensures.value, c.as_checked.ensures.value, c.format_of-format.ensures)
    at c.check_refutation.ensures)

pub returns-in_err-plan : goal.returns-in_err-plan
returns-in_err-plan g c = search (rules, read_none)

pub returns : goal.returns
returns g c =
    cut_refutation_read c.args.request.now _ c.args.refuted.now c.requires.refuted c.in_ok-plan.plan
    c.in_ok-plan.ensures c.if-not-request.false c.check_cut_refutation.result _ _
    (rw (c.circuit-circuit.ensures.value, c.as_checked.ensures.value, c.format_of-format.ensures, c.as_slice.ensures)
    at c.check_cut_refutation.ensures)
