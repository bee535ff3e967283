use Rattle.std.proofs.Common.{rules}
use Rattle.std.proofs.lemmas.Result.{err_from_is_err_and}
use Rattle.aig_io.proofs.Took.{gave_none, memory_refused, some_later}
use Rattle.aig_binary.proofs.source.fetch_first.Goals as goal

pub returns-in_err-window-clause-err : goal.returns-in_err-window-clause-err
returns-in_err-window-clause-err g c = search (rules, memory_refused, gave_none)

pub returns-in_err-more-clause-err : goal.returns-in_err-more-clause-err
returns-in_err-more-clause-err g c =
    let h = err_from_is_err_and c.from_residual-in_err-more.result c.from_residual-in_err-more.ensures.1 in
    let first = rw c.if-not-branch.false at c.in_ok-fill.ensures.ok in
    rw (h.1, h.2) (some_later c.in_err-more.field-0.0 first.given _ _ _ first.gave c.in_err-more.ensures.err)
