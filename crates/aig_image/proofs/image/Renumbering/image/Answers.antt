use Rattle.std.proofs.Common.{rules, sym, subst}
use Rattle.aig_checked.specs.BinaryOrder.{IsInBinaryOrder}
use Rattle.aig_circuit.specs.Wellformed.{IsWellFormed}
use Rattle.aig_image.specs.Image.{IsBinaryImage}
use Rattle.aig_image.proofs.Imaging.Ordered.{image_is_ordered}
use Rattle.aig_image.proofs.Imaging.Renewed.{made_is_image}
use Rattle.aig_image.proofs.image.Renumbering.image.Goals as goal

is_ordered : (c : goal.After-renumber) → IsWellFormed c.renumber.result × IsInBinaryOrder c.renumber.result
is_ordered c =
    image_is_ordered c.args.circuit c.renumber.result c.requires.good
    (search (rules, made_is_image))

pub from_well_ordered-requires-clause-well_formed :
    goal.from_well_ordered-requires-clause-well_formed
from_well_ordered-requires-clause-well_formed c = (is_ordered c).0

pub from_well_ordered-requires-clause-in_order : goal.from_well_ordered-requires-clause-in_order
from_well_ordered-requires-clause-in_order c = (is_ordered c).1

pub returns : goal.returns
returns c =
    subst (IsBinaryImage c.args.circuit) (sym c.from_well_ordered.ensures)
    (search (rules, made_is_image))
