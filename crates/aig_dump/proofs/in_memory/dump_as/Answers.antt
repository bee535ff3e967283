use Rattle.std.proofs.Common.{Err, Ok}
use Rattle.std.proofs.lemmas.Result.{err_from_is_err_and}
use Rattle.aig_dump.proofs.Lents.{dumped, not_dumped}
use Rattle.aig_dump.proofs.in_memory.dump_as.Goals as goal

pub returns-in_err-done-clause-err : goal.returns-in_err-done-clause-err
returns-in_err-done-clause-err c =
    let h = err_from_is_err_and c.from_residual-in_err-done.result c.from_residual-in_err-done.ensures.1 in
    rw (h.1, h.2) (not_dumped c.args.stimulus.now _ c.gives_its_bytes.ensures c.args.batch c.args.found.now
    (Err c.in_err-done.field-0.0) _ _ (rw c.in_ok-source.ensures at c.in_err-done.ensures.transferred))

pub returns-clause-text : goal.returns-clause-text
returns-clause-text c =
    let found = dumped c.args.stimulus.now _ c.gives_its_bytes.ensures c.args.batch c.args.found.now
    (Ok c.in_ok-done.field-0) _ _ (rw (c.in_ok-source.ensures, c.new-sink.ensures) at
    c.in_ok-done.ensures.transferred) in
    rw c.into_vec.ensures found.1
