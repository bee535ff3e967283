use Rattle.std.proofs.Common.{◌+◌, false, arith}
use Rattle.aig_topo.proofs.Ordering.Trees.{none_set, still_tree}
use Rattle.aig_topo.proofs.least_ready.ready.pop_least.Goals as goal

pub returns-then-words-eq0-clause-none : goal.returns-then-words-eq0-clause-none
returns-then-words-eq0-clause-none c = λ g.
    none_set c.args.words.now c.args.first c.args.levels c.requires c.if-words-eq0.true (c.args.first + g) (omega arith)

pub returns-clause-tree : goal.returns-clause-tree
returns-clause-tree c =
    still_tree c.args.words.now c.tell.new.words c.args.first c.args.levels c.least_bit-bit.result false c.requires
    (omega (arith, c.least_bit-bit.ensures.there, c.requires.first_is)) c.tell.auto.words c.tell.ensures.told
    c.tell.ensures.lowest
