use Rattle.aig_commands.proofs.Selected.{none_alone, not_asked}
use Rattle.std.proofs.lemmas.Result.{err_from_is_err_and}
use Rattle.aig_command.specs.declared.request.UnrolledForm.TheVariants.{Clauses}
use Rattle.aig_commands.proofs.reaching.selected_with_clauses.Goals as goal

pub returns-in_err-selected-clause-err : goal.returns-in_err-selected-clause-err
returns-in_err-selected-clause-err c =
    let h = err_from_is_err_and c.from_residual.result c.from_residual.ensures.1 in
    rw (h.1, h.2)
    (not_asked (Clauses c.args.property) c.args.frames c.args.found c.in_err-selected.field-0.0
    c.in_err-selected.ensures.err)

pub returns-in-Err-clause-err : goal.returns-in-Err-clause-err
returns-in-Err-clause-err c =
    none_alone c.args.property c.args.frames c.args.found c.in_ok-selected.selected c.in_ok-selected.ensures.there
    c.in_ok-selected.ensures.ok c.in-Err.fault c.in-Err.ensures.err
