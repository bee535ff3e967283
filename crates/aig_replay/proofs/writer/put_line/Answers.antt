use Rattle.aig_io.proofs.Puts.{put_twice}
use Rattle.aig_replay.proofs.writer.put_line.Goals as goal

pub returns : goal.returns
returns g c = put_twice _ _ _ _ _ c.put.ensures.put c.put-2.ensures.put
