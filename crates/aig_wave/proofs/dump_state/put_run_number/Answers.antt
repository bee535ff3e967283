use Rattle.aig_io.proofs.Puts.{put_twice}
use Rattle.std.proofs.Common.{sym}
use Rattle.aig_wave.proofs.dump_state.put_run_number.Goals as goal

pub returns-then-is_new_run : goal.returns-then-is_new_run
returns-then-is_new_run g c =
    rw (sym c.if-is_new_run.ensures)
    (put_twice _ _ _ _ _ c.put.ensures.put
    (put_twice _ _ _ _ _ c.put_binary_number.ensures c.put-then-is_new_run.ensures.put))
