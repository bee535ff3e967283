use Rattle.std.proofs.Common.{◌≡◌, List, length, take, All}
use Rattle.aig_circuit.specs.declared.value.Val.{Val}
use Rattle.aig_lanes.proofs.run.Run.fits.Given as goal

abbrev pub invariant-loop-vector : goal.invariant-loop-vector
invariant-loop-vector l =
    All (λ (vector : List Val). length vector ≡ length l.checked.inputs) (take l.vector-index l.vector-items)
