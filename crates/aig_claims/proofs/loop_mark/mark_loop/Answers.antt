use Rattle.std.proofs.Common.{arith, subst, sym}
use Rattle.aig_circuit.specs.Wellformed.{IsWellFormed}
use Rattle.aig_claims.proofs.Marking.{marked_is_well_formed}
use Rattle.aig_claims.proofs.loop_mark.mark_loop.Goals as goal

pub from_well_formed-requires : goal.from_well_formed-requires
from_well_formed-requires c =
    let found = c.into_circuit-circuit.ensures in
    let good = subst IsWellFormed (sym found.value) found.well_formed in
    rw c.in-Ok.ensures (marked_is_well_formed _ good (omega (arith, good.limits.max_var)))
