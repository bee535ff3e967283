use Rattle.aig_io.proofs.Puts.{put_twice}
use Rattle.aig_wave.proofs.dump_state.DumpState.put_end.Goals as goal

pub returns-then-done : goal.returns-then-done
returns-then-done g c =
    rw (← c.self.view_is) (rw c.if-done.true (put_twice _ _ _ _ _ c.put_head.ensures c.put_time.ensures))
