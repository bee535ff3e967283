use Rattle.std.proofs.Common.{◌≡◌}
use Rattle.std.specs.List.{range_with_len}
use Rattle.aig_arrays.specs.Parts.Placed.{placed}
use Rattle.aig_arrays.proofs.numbered.put_first_numbers.Given as goal

abbrev pub invariant-loop-at : goal.invariant-loop-at
invariant-loop-at l = l.numbers ≡ placed 0 (range_with_len 1 l.at) l.fn.numbers
