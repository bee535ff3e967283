use Rattle.std.proofs.Common.{◌≡◌, ◌+◌, drop, sum}
use Rattle.aig_arrays.proofs.sections.total.Given as goal

abbrev pub invariant-loop-size : goal.invariant-loop-size
invariant-loop-size l = l.all + sum (drop l.size-index l.sizes) ≡ sum l.sizes
