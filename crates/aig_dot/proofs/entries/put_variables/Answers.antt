use Rattle.aig_dot.proofs.Putting.{put_both}
use Rattle.aig_dot.proofs.entries.put_variables.Goals as goal

pub returns : goal.returns
returns g c =
    put_both _ _ _ _ _ c.put_constant.ensures
    (put_both _ _ _ _ _ c.put_inputs.ensures
    (put_both _ _ _ _ _ c.put_latches.ensures (rw c.as_slice.ensures at c.put_gates.ensures)))
