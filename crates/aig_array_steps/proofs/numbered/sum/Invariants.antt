use Rattle.std.proofs.Common.{◌≡◌, ◌+◌, ◌*◌, ◌≤◌, drop}
use Rattle.std.specs.Prelude.{sum}
use Rattle.aig_array_steps.proofs.numbered.sum.Given as goal

abbrev pub invariant-loop-size : goal.invariant-loop-size
invariant-loop-size l = record {
  low : l.sum ≤ 4294967295 * l.size-index;
  left : l.sum + sum (drop l.size-index l.sizes) ≡ sum l.sizes;
}
