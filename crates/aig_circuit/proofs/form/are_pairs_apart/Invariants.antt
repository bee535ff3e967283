use Rattle.std.proofs.Common.{◌↔◌, length}
use Rattle.aig_circuit.specs.Wellformed.{NameApart}
use Rattle.aig_circuit.proofs.form.are_pairs_apart.Given as goal

abbrev pub invariant-loop-first : goal.invariant-loop-first
invariant-loop-first l = NameApart l.left ↔ NameApart l.fn.symbols

abbrev pub decreases-loop-first : goal.decreases-loop-first
decreases-loop-first l = length l.left
