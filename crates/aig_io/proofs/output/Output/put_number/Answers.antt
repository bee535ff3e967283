use Rattle.std.proofs.lemmas.Fmt.{decimal_nonempty}
use Rattle.aig_io.proofs.Puts.{left_within}
use Rattle.aig_io.proofs.output.Output.put_number.Goals as goal

pub returns-then-has_room-clause-left : goal.returns-then-has_room-clause-left
returns-then-has_room-clause-left g c =
    rw (← c.self.view_is)
    (left_within _ _ _ c.fill_number.ensures.value (decimal_nonempty c.args.number c.ranges.number.fits)
    c.fill_number.ensures.short)

pub returns-else-has_room-clause-left : goal.returns-else-has_room-clause-left
returns-else-has_room-clause-left g c =
    (rw c.write_number-end.ensures.text at c.put.ensures.left)
    (decimal_nonempty c.args.number c.ranges.number.fits)
