use Rattle.aig_circuit.specs.Wellformed.{IsWellFormed}
use Rattle.aig_reduce.proofs.Formed.{without_outputs_is_well_formed}
use Rattle.aig_reduce.proofs.reduction.drop_outputs.Goals as goal

pub from_well_ordered-requires-clause-well_formed :
    goal.from_well_ordered-requires-clause-well_formed
from_well_ordered-requires-clause-well_formed c =
    let circuit = c.into_circuit-circuit.result in
    let good : IsWellFormed circuit = rw c.into_circuit-circuit.ensures.value c.into_circuit-circuit.ensures.well_formed in
    rw (c.new.ensures, c.new-2.ensures) (without_outputs_is_well_formed circuit good)
