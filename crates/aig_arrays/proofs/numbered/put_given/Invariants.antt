use Rattle.std.proofs.Common.{◌≡◌, ◌+◌, drop}
use Rattle.aig_arrays.specs.Parts.Placed.{placed}
use Rattle.aig_arrays.proofs.numbered.put_given.Given as goal

abbrev pub invariant-loop-number : goal.invariant-loop-number
invariant-loop-number l = record {
  numbers : placed l.end (drop l.number-index l.given) l.numbers ≡ placed l.at l.given l.fn.numbers;
  end : l.end ≡ l.at + l.number-index;
}
