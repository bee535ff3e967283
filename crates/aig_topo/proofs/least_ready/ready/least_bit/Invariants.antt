use Rattle.aig_topo.specs.Ready.{first_bit}
use Rattle.aig_topo.proofs.Ordering.Trees.{IsLeastAt}
use Rattle.aig_topo.proofs.least_ready.ready.least_bit.Given as goal

abbrev pub invariant-loop : goal.invariant-loop
invariant-loop l = IsLeastAt l.words (first_bit l.levels) l.levels l.counter l.bit
