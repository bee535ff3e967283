use Rattle.aig_io.proofs.Puts.{put_twice}
use Rattle.aig_info.proofs.writer.put_head_field.Goals as goal

pub returns : goal.returns
returns g c =
    put_twice _ _ _ _ _ c.put.ensures.put c.put_number.ensures.put
