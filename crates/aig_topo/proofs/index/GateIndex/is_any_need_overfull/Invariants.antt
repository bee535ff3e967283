use Rattle.std.proofs.Common.{◌≡◌, false}
use Rattle.aig_topo.proofs.index.GateIndex.is_any_need_overfull.Given as goal

abbrev pub invariant-loop-at : goal.invariant-loop-at
invariant-loop-at l = l.any ≡ false
