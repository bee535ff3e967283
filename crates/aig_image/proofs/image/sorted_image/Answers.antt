use Rattle.std.proofs.Common.{◌≡◌, rules, List, map, sym, subst}
use Rattle.aig_checked.specs.BinaryOrder.{IsInBinaryOrder, IsNumberedInOrder}
use Rattle.aig_circuit.specs.Wellformed.{IsWellFormed}
use Rattle.aig_circuit.specs.declared.circuit.Circuit.{Circuit}
use Rattle.aig_circuit.specs.declared.circuit.Gate.{Gate}
use Rattle.aig_image.specs.Image.{IsBinaryImage}
use Rattle.aig_image.specs.Reordered.{operands_sorted}
use Rattle.aig_image.proofs.Imaging.Ordered.{image_is_ordered}
use Rattle.aig_image.proofs.Imaging.OwnImage.{sorted_image}
use Rattle.aig_image.proofs.Relabelling.Relabelled.{with_gates}
use Rattle.aig_image.proofs.image.sorted_image.Goals as goal

-- the circuit with the gates that were sorted
is_image : (circuit : Circuit) (gates : List Gate) → IsWellFormed circuit → IsNumberedInOrder circuit
    → gates ≡ map operands_sorted circuit.gates → IsBinaryImage circuit (with_gates gates circuit)
is_image circuit gates good numbered sorted = search (rules, with_gates, sorted_image)

is_good : (circuit : Circuit) (gates : List Gate) → IsWellFormed circuit → IsNumberedInOrder circuit
    → gates ≡ map operands_sorted circuit.gates
    → IsWellFormed (with_gates gates circuit) × IsInBinaryOrder (with_gates gates circuit)
is_good circuit gates good numbered sorted =
    image_is_ordered circuit (with_gates gates circuit) good (is_image circuit gates good numbered sorted)

pub from_well_ordered-requires-clause-well_formed : goal.from_well_ordered-requires-clause-well_formed
from_well_ordered-requires-clause-well_formed c =
    (is_good c.args.circuit c.sort_operands.result c.requires.good c.requires.numbered c.sort_operands.ensures).0

pub from_well_ordered-requires-clause-in_order : goal.from_well_ordered-requires-clause-in_order
from_well_ordered-requires-clause-in_order c =
    (is_good c.args.circuit c.sort_operands.result c.requires.good c.requires.numbered c.sort_operands.ensures).1

pub returns : goal.returns
returns c =
    subst (IsBinaryImage c.args.circuit) (sym c.from_well_ordered.ensures)
    (search (rules, is_image))
