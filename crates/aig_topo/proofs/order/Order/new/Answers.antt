use Rattle.std.proofs.Common.{◌∙◌, rules, [], ap}
use Rattle.aig_topo.specs.Progress.{Progress}
use Rattle.aig_topo.proofs.Ordering.Ranked.{counts_are, at_most_two}
use Rattle.aig_topo.proofs.order.Order.new.Goals as goal

pub waiting_for-requires-clause-at_most_two : goal.waiting_for-requires-clause-at_most_two
waiting_for-requires-clause-at_most_two c = search (rules, at_most_two)

pub returns-clause-begun : goal.returns-clause-begun
returns-clause-begun c =
    c.in_ok-waiting_for.ensures.begun
    ∙ ap {B = Progress} (λ ws. record { list = []; waiting = ws; steps = 0 })
    (counts_are c.args.circuit.now.gates c.in_ok-_lists._lists.rows.items c.in_ok-_lists.counts.items
    c.in_ok-_lists.ensures.needs c.in_ok-_lists.ensures.counts)
