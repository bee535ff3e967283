use Rattle.aig_text.proofs.LastBytes.{with_its_comment}
use Rattle.aig_text.proofs.piecewise.finish_with.Goals as goal

pub with_comment_in-requires : goal.with_comment_in-requires
with_comment_in-requires g c = rw c.as_slice.ensures.value at c.in-Ok.ensures.within

pub returns-in-Ok : goal.returns-in-Ok
returns-in-Ok g c =
    with_its_comment c.args.bytes.items c.in-Ok.found c.with_comment_in.result _
    (rw c.as_slice.ensures.value at c.in-Ok.ensures.read) c.with_comment_in.ensures.ok c.with_comment_in.ensures.err

pub returns-in-Err : goal.returns-in-Err
returns-in-Err g c = rw c.as_slice.ensures.value at c.in-Err.ensures.read
