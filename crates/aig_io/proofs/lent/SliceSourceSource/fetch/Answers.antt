use Rattle.std.proofs.Common.{arith, rules}
use Rattle.aig_io.proofs.Took.{lent_fetched, front_is}
use Rattle.aig_io.proofs.lent.SliceSourceSource.fetch.Goals as goal

pub returns-else-count-eq0-clause-history : goal.returns-else-count-eq0-clause-history
returns-else-count-eq0-clause-history c =
    rw (← c.self.view_is)
    (lent_fetched c.self.inside.bytes.now _ c.self.inside.at c.min-count.result _ (omega (arith, c.if-count-eq0.false))
    (front_is c.self.inside.bytes.now c.self.inside.bytes.now c.copy_from_slice.new.self _ c.self.inside.at
    c.min-count.result c.copy_from_slice.ensures.after (search rules) (search rules)))
