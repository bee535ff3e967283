use Rattle.aig_topo.proofs.Ordering.Trees.{tells_elsewhere, what_to_tell, lowest_put}
use Rattle.std.proofs.Common.{rules, length-set}
use Rattle.aig_topo.proofs.least_ready.ready.+tell.Goals as goal

pub tell-requires : goal.tell-requires
tell-requires t c = search (rules, length-set, what_to_tell, tells_elsewhere)

pub returns-clause-lowest : goal.returns-clause-lowest
returns-clause-lowest t c =
    lowest_put c.args.words.now c.args.bit c.args.on c.with_bit-after.result c.requires.there
    c.with_bit-after.ensures.bits c.tell.new.words _ c.if-at-eq0.false c.tell.ensures.lowest
