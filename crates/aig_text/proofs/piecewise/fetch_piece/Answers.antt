use Rattle.std.proofs.lemmas.Result.{err_from_is_err_and}
use Rattle.aig_io.proofs.Took.{some_later}
use Rattle.aig_text.proofs.piecewise.fetch_piece.Goals as goal

pub returns-in_err-fill-clause-err : goal.returns-in_err-fill-clause-err
returns-in_err-fill-clause-err g c =
    let h = err_from_is_err_and c.from_residual.result c.from_residual.ensures.1 in
    rw (h.1, h.2)
    (some_later c.in_err-fill.field-0.0 c.loop-window.invariant.came.given _ _ _ c.loop-window.invariant.came.gave
    c.in_err-fill.ensures.err)
