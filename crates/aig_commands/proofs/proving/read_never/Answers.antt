use Rattle.aig_commands.proofs.Provings.{never_reached}
use Rattle.aig_commands.proofs.proving.read_never.Goals as goal

pub returns : goal.returns
returns g c =
    never_reached _ _ c.read_refutation-checked.result _ _ c.circuit-circuit.ensures.well_formed
    (rw c.over_one_frame.ensures at c.read_refutation-checked.ensures)
