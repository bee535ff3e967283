use Rattle.aig_io.proofs.Puts.{put_twice}
use Rattle.aig_wave.proofs.dump_state.put_time.Goals as goal

pub returns : goal.returns
returns g c = put_twice _ _ _ _ _ c.put.ensures.put c.put_row.ensures.put
