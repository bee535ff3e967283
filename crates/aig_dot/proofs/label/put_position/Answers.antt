use Rattle.aig_io.proofs.Puts.{put_twice}
use Rattle.aig_dot.proofs.label.put_position.Goals as goal

pub returns : goal.returns
returns g c =
    put_twice _ _ _ _ _ (rw c.letter.ensures at c.put.ensures.put) c.put_number.ensures.put
