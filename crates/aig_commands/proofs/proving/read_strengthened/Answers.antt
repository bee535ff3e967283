use Rattle.std.proofs.lemmas.Result.{err_from_is_err_and}
use Rattle.aig_commands.proofs.Provings.{invariant_refused, made_whole, strengthened_read}
use Rattle.aig_commands.proofs.proving.read_strengthened.Goals as goal

pub returns-in_err-strengthened-clause-read : goal.returns-in_err-strengthened-clause-read
returns-in_err-strengthened-clause-read g c =
    let h = err_from_is_err_and c.from_residual.result c.from_residual.ensures.1 in
    rw (h.1, h.2)
    (invariant_refused c.args.selected c.in_err-strengthened.field-0.0 _ _ c.in_err-strengthened.ensures)

pub returns-clause-read : goal.returns-clause-read
returns-clause-read g c =
    strengthened_read c.args.selected c.in_ok-strengthened.strengthened c.selected_with_clauses.result _ _
    c.selected_with_clauses.ensures.ok c.selected_with_clauses.ensures.clauses c.selected_with_clauses.ensures.err
    (made_whole _ _ _ _ c.in_ok-strengthened.ensures)
