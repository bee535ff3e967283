use Rattle.std.proofs.Common.{◌≡◌, ◌++◌, map, take, drop}
use Rattle.aig_image.specs.Reordered.{operands_sorted}
use Rattle.aig_image.proofs.image.sort_operands.Given as goal

abbrev pub invariant-loop-at : goal.invariant-loop-at
invariant-loop-at l = l.found.items ≡ map operands_sorted (take l.at l.fn.gates) ++ drop l.at l.fn.gates
