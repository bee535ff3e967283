use Rattle.aig_io.proofs.Puts.{put_twice}
use Rattle.aig_dot.proofs.shown.put_shown.Goals as goal

pub returns : goal.returns
returns g c =
    put_twice _ _ _ _ _
    (put_twice _ _ _ _ _ c.put_opening.ensures (put_twice _ _ _ _ _ c.put_name.ensures c.put_closing.ensures))
    (rw c.literals_at.ensures at c.put_uses.ensures)
