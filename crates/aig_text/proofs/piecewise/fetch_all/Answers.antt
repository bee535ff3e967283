use Rattle.std.proofs.lemmas.Result.{err_from_is_err_and}
use Rattle.aig_io.proofs.Took.{some_later}
use Rattle.aig_text.proofs.piecewise.fetch_all.Goals as goal

pub returns-in_err-read_to_end-clause-err : goal.returns-in_err-read_to_end-clause-err
returns-in_err-read_to_end-clause-err g c =
    let h = err_from_is_err_and c.from_residual.result c.from_residual.ensures.1 in
    rw (h.1, h.2)
    (λ before bytes is.
    let is = rw c.if-more.true at is in
    some_later c.in_err-read_to_end.field-0.0 bytes before _ _ is c.in_err-read_to_end.ensures.err)
