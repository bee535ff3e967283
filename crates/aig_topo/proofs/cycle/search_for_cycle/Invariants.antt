use Rattle.std.proofs.Common.{◌≡◌, ◌<◌, ◌+◌, ℕ, [], map, slice_index, sum}
use Rattle.aig_topo.specs.Cycle.{pair_of, IsSearch}
use Rattle.aig_topo.proofs.cycle.search_for_cycle.Given as goal

abbrev pub invariant-loop-gate : goal.invariant-loop-gate
invariant-loop-gate l = record {
  operands : l.search.operands.items ≡ map (pair_of l.circuit.gates) l.circuit.gates;
  search : IsSearch l.search;
  way : l.search.way.items ≡ [];
  steps : l.steps.count + 2 ≡ l.fn.steps.count + sum l.search.states.items;
  done : (k : ℕ) → k < l.gate → slice_index l.search.states.items k ≡ 2;
}
