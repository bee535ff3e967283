use Rattle.std.proofs.Common.{◌≡◌, map, take}
use Rattle.aig_topo.specs.Lists.{needs_in, row_of}
use Rattle.aig_topo.specs.Needs.{needs_of, how_many}
use Rattle.aig_topo.proofs.lists.GateNeeds.by_index.Given as goal

abbrev pub invariant-loop-gate : goal.invariant-loop-gate
invariant-loop-gate l = record {
  rows : l.rows.items ≡ map (λ g. row_of (needs_of l.gates g)) (take l.gate-index l.gates);
  counts : l.counts.items ≡ map how_many (needs_in l.rows.items);
}
