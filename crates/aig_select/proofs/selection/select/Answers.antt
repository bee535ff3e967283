use Rattle.std.proofs.Common.{subst, sym}
use Rattle.aig_circuit.specs.Wellformed.{IsWellFormed}
use Rattle.aig_select.proofs.Selected.{selection_is_well_formed}
use Rattle.aig_select.proofs.selection.select.Goals as goal

pub from_well_formed-requires : goal.from_well_formed-requires
from_well_formed-requires c =
    let circuit = c.into_circuit-circuit.result in
    let good = subst IsWellFormed (sym c.into_circuit-circuit.ensures.value) c.into_circuit-circuit.ensures.well_formed in
    subst IsWellFormed (sym c.assemble.ensures)
    (selection_is_well_formed c.args.choice.now circuit _ good c.in-Ok.ensures)
