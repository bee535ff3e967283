use Rattle.aig_io.proofs.Puts.{put_nothing, put_twice}
use Rattle.aig_info.proofs.writer.put_others.Goals as goal

pub returns : goal.returns
returns g c =
    put_twice _ _ _ _ _ c.put_row.ensures
    (put_twice _ _ _ _ _ c.put_row-2.ensures
    (put_twice _ _ _ _ _ c.put_row-3.ensures
    (put_twice _ _ _ _ _ c.put_row-4.ensures
    (put_twice _ _ _ _ _ c.put_row-5.ensures (put_nothing _)))))
