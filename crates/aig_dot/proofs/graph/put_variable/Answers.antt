use Rattle.aig_io.proofs.Puts.{put_twice}
use Rattle.aig_dot.proofs.graph.put_variable.Goals as goal

pub returns : goal.returns
returns g c =
    put_twice _ _ _ _ _ c.put.ensures.put (rw (c.from.ensures, c.variable.view_is) at c.put_number.ensures.put)
