use Rattle.aig_io.proofs.Puts.{put_twice}
use Rattle.aig_dot.proofs.graph.put_opening.Goals as goal

pub returns : goal.returns
returns g c =
    put_twice _ _ _ _ _ c.put.ensures.put
    (put_twice _ _ _ _ _ c.put_node.ensures
    (put_twice _ _ _ _ _ c.put-2.ensures.put
    (put_twice _ _ _ _ _ (rw c.shape_name.ensures at c.put-3.ensures.put) c.put-4.ensures.put)))
