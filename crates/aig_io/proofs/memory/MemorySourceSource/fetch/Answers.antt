use Rattle.std.proofs.Common.{arith, rules}
use Rattle.aig_io.proofs.Took.{fetched, front_is}
use Rattle.aig_io.proofs.memory.MemorySourceSource.fetch.Goals as goal

pub returns-else-count-eq0-clause-state : goal.returns-else-count-eq0-clause-state
returns-else-count-eq0-clause-state c =
    rw (← c.self.view_is)
    (fetched c.self.inside.bytes.items _ c.self.inside.at c.min-count.result _ _ _ c.self.inside.calls_before _
    c.fails_now.ensures.counted (omega (arith, c.if-count-eq0.false))
    (front_is c.self.inside.bytes.items c.deref.result.now c.copy_from_slice.new.self _ c.self.inside.at
    c.min-count.result
    c.copy_from_slice.ensures.after (search rules) (search rules)))
