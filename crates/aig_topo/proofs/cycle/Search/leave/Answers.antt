use Rattle.std.proofs.Common.{◌≡◌, ◌<◌, ◌-◌, length, sym, subst, take, rules}
use Rattle.std.proofs.Math.ListN.{set as put}
use Rattle.aig_topo.specs.Cycle.{needs_in, IsSearching}
use Rattle.aig_topo.proofs.Ordering.DepthFirst.{left, last_met, met_below, one_step_out}
use Rattle.aig_topo.proofs.cycle.Search.leave.Goals as goal

pub returns-clause-search : goal.returns-clause-search
returns-clause-search c =
    let pairs = c.args.self.now.operands.items in
    let states = c.args.self.now.states.items in
    let way = c.args.self.now.way.items in
    let before = c.requires.search.searching in
    let there : c.args.gate < length pairs = met_below (length pairs) (needs_in pairs) states way before c.args.gate
    (last_met (length pairs) (needs_in pairs) states way before c.args.gate c.requires.at_end) in
    let rest : c.pop.new.self.items ≡ take (length way - 1) way = search rules in
    record {
      within = c.requires.search.within;
      searching = subst (λ w. IsSearching (length pairs) (needs_in pairs) (put states c.args.gate 2) w) (sym rest)
          (left (length pairs) (needs_in pairs) states way before c.args.gate there
          c.requires.at_end c.requires.served);
    }

pub returns-clause-by_one : goal.returns-clause-by_one
returns-clause-by_one c = search (rules, met_below, last_met, one_step_out)
