use Rattle.std.proofs.Common.{◌≡◌, ◌+◌, ◌≤◌, drop, sum}
use Rattle.aig_arrays.proofs.decoded.add_up.Given as goal

abbrev pub invariant-loop-number : goal.invariant-loop-number
invariant-loop-number l =
    (l.all + sum (drop l.number-index l.numbers) ≡ sum l.numbers) × (l.all ≤ l.wanted)
