use Rattle.std.proofs.lemmas.Fmt.{decimal_nonempty}
use Rattle.aig_io.proofs.Puts.{left_within, some_first}
use Rattle.aig_io.proofs.output.Output.put_row.Goals as goal

pub returns-then-has_room-clause-left : goal.returns-then-has_room-clause-left
returns-then-has_room-clause-left g c =
    rw (← c.self.view_is)
    (left_within _ _ _ c.fill_row.ensures.value
    (some_first _ _ (decimal_nonempty c.args.first c.ranges.first.fits)) c.fill_row.ensures.short)
