use Rattle.std.proofs.Common.{◌≡◌, ◌*◌, ◌+◌, ◌-◌, ◌<◌, length, slice_index, sum}
use Rattle.aig_topo.specs.Cycle.{IsSearch, IsRisen}
use Rattle.aig_topo.proofs.cycle.Search.leads_to_cycle.Given as goal

abbrev pub invariant-loop-gate : goal.invariant-loop-gate
invariant-loop-gate l = record {
  operands : l.self.operands.items ≡ l.fn.self.operands.items;
  search : IsSearch l.self;
  first : 0 < length l.self.way.items → slice_index l.self.way.items 0 ≡ l.root;
  root : 0 < slice_index l.self.states.items l.root;
  risen : IsRisen l.fn.self.states.items l.self.states.items;
  steps : l.steps.count + sum l.fn.self.states.items ≡ l.fn.steps.count + sum l.self.states.items;
}

abbrev pub decreases-loop-gate : goal.decreases-loop-gate
decreases-loop-gate l = 2 * length l.self.states.items - sum l.self.states.items
