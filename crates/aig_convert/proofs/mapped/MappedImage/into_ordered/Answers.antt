use Rattle.std.proofs.Common.{Some, subst, sym}
use Rattle.aig_circuit.specs.Wellformed.{IsWellFormed}
use Rattle.aig_map.proofs.Mapping.{comment_is_free}
use Rattle.aig_convert.proofs.mapped.MappedImage.into_ordered.Goals as goal

pub from_well_ordered-requires-clause-well_formed : goal.from_well_ordered-requires-clause-well_formed
from_well_ordered-requires-clause-well_formed c =
    comment_is_free c.into_circuit-found.result (Some c.in_ok-text.text)
    (subst IsWellFormed (sym c.into_circuit-found.ensures.value) c.into_circuit-found.ensures.well_formed)
