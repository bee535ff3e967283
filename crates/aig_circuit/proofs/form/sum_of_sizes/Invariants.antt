use Rattle.std.proofs.Common.{◌≡◌, ◌+◌, ◌*◌, ◌^◌, ◌≤◌, drop, sum}
use Rattle.aig_circuit.proofs.form.sum_of_sizes.Given as goal

abbrev pub invariant-loop-size : goal.invariant-loop-size
invariant-loop-size l = (l.all + sum (drop l.size-index l.sizes) ≡ sum l.sizes) × (l.all ≤ l.size-index * 2 ^ 32)
