use Rattle.std.proofs.Common.{◌≡◌, map, take}
use Rattle.aig_topo.specs.Cycle.{pair_of}
use Rattle.aig_topo.proofs.cycle.all_pairs.Given as goal

abbrev pub invariant-loop-gate : goal.invariant-loop-gate
invariant-loop-gate l = l.all.items ≡ map (pair_of l.gates) (take l.gate-index l.gates)
