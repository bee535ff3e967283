use Rattle.std.proofs.Common.{◌≡◌, take}
use Rattle.aig_image.specs.Reordered.{taken}
use Rattle.aig_image.proofs.image.take_gates.Given as goal

abbrev pub invariant-loop-at : goal.invariant-loop-at
invariant-loop-at l = l.found.items ≡ taken l.gates (take l.at-index l.order)
