use Rattle.aig_io.proofs.Puts.{left_within}
use Rattle.aig_io.proofs.output.Output.put_line.Goals as goal

pub returns-then-has_room-clause-left : goal.returns-then-has_room-clause-left
returns-then-has_room-clause-left g c = λ some.
    rw (← c.self.view_is) (left_within _ _ _ c.fill_line.ensures.added some c.fill_line.ensures.short)
