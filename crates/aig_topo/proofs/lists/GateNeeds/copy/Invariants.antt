use Rattle.std.proofs.Common.{◌≡◌, take}
use Rattle.aig_topo.specs.Lists.{needs_in}
use Rattle.aig_topo.proofs.lists.GateNeeds.copy.Given as goal

abbrev pub invariant-loop-row : goal.invariant-loop-row
invariant-loop-row l = l.all.items ≡ needs_in (take l.row-index l.self.lists.rows.items)
