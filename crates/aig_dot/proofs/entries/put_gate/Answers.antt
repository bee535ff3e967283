use Rattle.std.proofs.Common.{sym}
use Rattle.aig_io.proofs.Puts.{put_nothing, put_twice}
use Rattle.aig_dot.proofs.entries.put_gate.Goals as goal

pub returns-then-not-contains : goal.returns-then-not-contains
returns-then-not-contains g c = rw (sym c.if-not-contains.ensures) (put_nothing _)

pub returns : goal.returns
returns g c =
    rw (sym c.if-not-contains.ensures)
    (put_twice _ _ _ _ _
    (put_twice _ _ _ _ _ c.put_opening.ensures
    (put_twice _ _ _ _ _ (rw c.literal_number.ensures at c.put_number.ensures.put) c.put_closing.ensures))
    (put_twice _ _ _ _ _ c.put_arrow.ensures (put_twice _ _ _ _ _ c.put_arrow-2.ensures (put_nothing _))))
