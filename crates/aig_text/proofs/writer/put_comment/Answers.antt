use Rattle.aig_io.proofs.Puts.{put_twice}
use Rattle.aig_text.proofs.writer.put_comment.Goals as goal

pub returns-in-Some : goal.returns-in-Some
returns-in-Some g c =
    rw c.in-Some.is (put_twice _ _ _ _ _ c.put.ensures.put (rw c.as_slice.ensures at c.put-in-Some.ensures.put))
