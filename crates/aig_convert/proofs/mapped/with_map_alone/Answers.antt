use Rattle.std.proofs.Common.{◌≡◌, ◌∙◌, List, ap, map, subst, sym}
use Rattle.aig_checked.specs.BinaryOrder.{IsInBinaryOrder, IsNumberedInOrder}
use Rattle.aig_circuit.specs.Wellformed.{IsWellFormed}
use Rattle.aig_circuit.specs.declared.circuit.Circuit.{Circuit}
use Rattle.aig_circuit.specs.declared.circuit.Gate.{Gate}
use Rattle.aig_image.specs.Image.{IsBinaryImage}
use Rattle.aig_image.specs.Reordered.{operands_sorted}
use Rattle.aig_image.proofs.Imaging.Ordered.{image_is_ordered}
use Rattle.aig_image.proofs.Imaging.OwnImage.{sorted_image}
use Rattle.aig_image.proofs.Relabelling.Relabelled.{with_gates}
use Rattle.aig_map.specs.MapBlock.{IsMappedImage}
use Rattle.aig_map.specs.Parts.Kept.{with_block}
use Rattle.aig_map.proofs.Mapping.{with_map_is_image}
use Rattle.aig_convert.proofs.mapped.with_map_alone.Goals as goal

-- the circuit with the gates that were sorted
module _ (circuit : Circuit) (gates : List Gate) (good : IsWellFormed circuit) (numbered : IsNumberedInOrder circuit)
    (sorted : gates ≡ map operands_sorted circuit.gates) where
  is_good : IsWellFormed (with_gates gates circuit) × IsInBinaryOrder (with_gates gates circuit)
  is_good =
      image_is_ordered circuit (with_gates gates circuit) good
      (subst (λ (gs : List Gate). IsBinaryImage circuit (with_gates gs circuit)) (sym sorted)
      (sorted_image circuit good numbered))

pub from_well_ordered-image-requires-clause-well_formed : goal.from_well_ordered-image-requires-clause-well_formed
from_well_ordered-image-requires-clause-well_formed c =
    (is_good c.args.circuit c.sort_operands-gates.result c.requires.good c.requires.numbered
    c.sort_operands-gates.ensures).0

pub from_well_ordered-image-requires-clause-in_order : goal.from_well_ordered-image-requires-clause-in_order
from_well_ordered-image-requires-clause-in_order c =
    (is_good c.args.circuit c.sort_operands-gates.result c.requires.good c.requires.numbered
    c.sort_operands-gates.ensures).1

pub returns : goal.returns
returns c =
    let gates_are = ap (λ (gs : List Gate). with_gates gs c.args.circuit) c.sort_operands-gates.ensures in
    subst (IsMappedImage c.args.circuit)
    (sym (c.new.ensures ∙ ap (with_block c.in-Ok.block) (c.from_well_ordered-image.ensures ∙ gates_are)))
    (with_map_is_image c.args.circuit c.requires.good c.requires.numbered c.in-Ok.block c.in-Ok.ensures)
