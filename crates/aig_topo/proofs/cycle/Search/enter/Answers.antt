use Rattle.std.proofs.Common.{length}
use Rattle.aig_topo.specs.Cycle.{needs_in}
use Rattle.aig_topo.proofs.Ordering.DepthFirst.{entered}
use Rattle.aig_topo.proofs.cycle.Search.enter.Goals as goal

pub returns-clause-search : goal.returns-clause-search
returns-clause-search c =
    let pairs = c.args.self.now.operands.items in
    let states = c.args.self.now.states.items in record {
      within = c.requires.search.within;
      searching =
          rw (← c.in_ok-push.ensures.items)
          at (entered (length pairs) (needs_in pairs) states c.args.self.now.way.items c.requires.search.searching
          c.args.gate c.requires.there c.requires.unseen c.requires.needed);
    }
