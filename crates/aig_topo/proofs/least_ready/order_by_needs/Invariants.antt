use Rattle.aig_topo.specs.Lists.{needs_in}
use Rattle.aig_topo.proofs.least_ready.order_by_needs.Given as goal

abbrev pub ghost-look_at_all : goal.ghost-look_at_all
ghost-look_at_all a = needs_in a.self.now.lists.rows.items
