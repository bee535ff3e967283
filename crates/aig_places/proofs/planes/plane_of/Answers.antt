use Rattle.aig_places.proofs.Side.Planes.{all_ones, all_zeros}
use Rattle.aig_places.proofs.planes.plane_of.Goals as goal
use Rattle.aig_places.proofs.planes.plane_of.Goals.{then-bit, else-bit}

pub returns-clause-bits : goal.returns-clause-bits
returns-clause-bits c l below =
    elim c.if-bit.branch [
      | then-bit w ↦ rw (w.result-is, w.if-bit.true) (all_ones l below)
      | else-bit w ↦ rw (w.result-is, w.if-bit.false) (all_zeros l)
    ]
