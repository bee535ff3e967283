use Rattle.aig_io.proofs.Puts.{put_twice}
use Rattle.aig_fault.proofs.fault.Fault.put.Goals as goal

pub returns : goal.returns
returns g c = rw (← c.words.ensures) (put_twice _ _ _ _ _ c.put.ensures c.put-2.ensures)
