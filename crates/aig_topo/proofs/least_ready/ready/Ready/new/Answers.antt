use Rattle.std.proofs.lemmas.Nat.Bits.{bit_at-zero}
use Rattle.aig_topo.proofs.Ordering.Trees.{zeros, empty_tree}
use Rattle.std.proofs.Common.{rules, arith}
use Rattle.aig_topo.specs.Ready.{first_bit, has}
use Rattle.aig_topo.proofs.least_ready.ready.Ready.new.Goals as goal

pub loop-first-init : goal.loop-first-init
unfolding first_bit
loop-first-init c = record { first_is = omega arith; levels = omega arith; few = omega arith }

pub loop-first-preserved : goal.loop-first-preserved
unfolding first_bit
loop-first-preserved c = search rules

pub invariant_of-result : goal.invariant_of-result
invariant_of-result c = search (rules, empty_tree, zeros, bit_at-zero)

pub returns-clause-empty : goal.returns-clause-empty
unfolding has
returns-clause-empty c = search (rules, zeros, bit_at-zero)
