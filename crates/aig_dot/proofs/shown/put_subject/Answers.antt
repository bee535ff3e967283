use Rattle.std.proofs.Common.{[]}
use Rattle.aig_io.proofs.Puts.{put_nothing}
use Rattle.aig_dot.proofs.Putting.{put_both}
use Rattle.aig_dot.proofs.shown.put_subject.Goals as goal

pub returns-in-Whole : goal.returns-in-Whole
returns-in-Whole g c =
    rw c.in-Whole.is
    (put_both _ _ _ _ _ c.put_kind.ensures
    (put_both _ _ _ _ _ c.put_kind-in-Whole.ensures
    (put_both _ _ _ _ _ c.put_kind-in-Whole-2.ensures
    (put_both _ _ _ _ _ c.put_kind-in-Whole-3.ensures
    (put_both _ _ _ _ [] c.put_kind-in-Whole-4.ensures (put_nothing _))))))
