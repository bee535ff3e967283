use Rattle.aig_io.proofs.Puts.{put_twice}
use Rattle.aig_dot.specs.Dot.{dot_text}
use Rattle.aig_dot.proofs.Putting.{put_both}
use Rattle.aig_dot.proofs.writer.put_picture.Goals as goal

pub returns : goal.returns
unfolding dot_text
returns g c =
    put_twice _ _ _ _ _ c.put.ensures.put
    (put_twice _ _ _ _ _
    (put_both _ _ _ _ _ (rw c.reach_of.ensures at c.put_variables.ensures) c.put_subject.ensures)
    c.put-2.ensures.put)
