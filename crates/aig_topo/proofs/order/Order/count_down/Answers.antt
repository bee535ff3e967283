use Rattle.std.proofs.Common.{◌≡◌, ◌+◌, ◌<◌, rules, ap, length, get_or}
use Rattle.aig_topo.specs.Progress.{Progress}
use Rattle.aig_topo.proofs.Ordering.Counted.{counts_down}
use Rattle.aig_topo.proofs.order.Order.count_down.Goals as goal

pub invariant_of-self : goal.invariant_of-self
invariant_of-self c =
    let is : c.self.inside.waiting.items ≡ c.args.self.now.waiting = ap (λ (p : Progress). p.waiting) c.self.view_is in
    let there : c.args.gate < length c.self.inside.waiting.items = rw is c.requires.there in
    let was : get_or c.self.inside.waiting.items c.args.gate 0 ≡ c.args.left + 1 = rw is c.requires.waiting in
    search (rules, counts_down)
