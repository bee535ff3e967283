use Rattle.aig_io.proofs.Puts.{put_twice}
use Rattle.aig_info.proofs.writer.put_head_line.Goals as goal

pub returns : goal.returns
returns g c =
    put_twice _ _ _ _ _ c.put.ensures.put
    (put_twice _ _ _ _ _ c.put_number.ensures.put c.put-2.ensures.put)
