use Rattle.std.proofs.lemmas.Result.{err_from_is_err_and}
use Rattle.aig_commands.proofs.Provings.{clauses_read, invariant_refused, made_whole}
use Rattle.aig_commands.proofs.proving.read_clauses.Goals as goal

pub returns-in_err-strengthened-clause-read : goal.returns-in_err-strengthened-clause-read
returns-in_err-strengthened-clause-read g c =
    let h = err_from_is_err_and c.from_residual.result c.from_residual.ensures.1 in
    rw (h.1, h.2)
    (invariant_refused c.args.selected c.in_err-strengthened.field-0.0 _ _ c.in_err-strengthened.ensures)

pub returns-clause-read : goal.returns-clause-read
returns-clause-read g c =
    clauses_read c.args.request.now c.args.selected c.in_ok-strengthened.strengthened c.unrolled_answer.result _ _
    (rw c.clauses_over_one_frame.ensures at c.unrolled_answer.ensures.text)
    (rw c.clauses_over_one_frame.ensures at c.unrolled_answer.ensures.err)
    (made_whole _ _ _ _ c.in_ok-strengthened.ensures)
