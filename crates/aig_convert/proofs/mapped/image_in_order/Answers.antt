use Rattle.std.proofs.Common.{◌≡◌, ◌∙◌, ◌≤◌, rules, ap, subst, sym}
use Rattle.std.specs.List.{AllByRecursion}
use Rattle.aig_circuit.specs.declared.circuit.Circuit.{Circuit}
use Rattle.aig_circuit.specs.declared.circuit.Gate.{Gate}
use Rattle.aig_circuit.specs.declared.circuit.TheConstants.{LARGEST}
use Rattle.aig_checked.specs.BinaryOrder.{IsInBinaryOrder}
use Rattle.aig_circuit.specs.Wellformed.{IsWellFormed}
use Rattle.aig_circuit.proofs.Checking.{definitions_fit}
use Rattle.aig_image.specs.Parts.Numbers.{number_of}
use Rattle.aig_image.proofs.Imaging.Ordered.{image_is_ordered}
use Rattle.aig_map.specs.MapBlock.{IsMappedImage}
use Rattle.aig_map.specs.Parts.Kept.{with_block}
use Rattle.aig_map.proofs.BlockText.{as_many_gates, as_many_inputs, as_many_latches}
use Rattle.aig_map.proofs.Mapping.{all_sorted, few_before_gates, is_mapped_image, made, made_is}
use Rattle.aig_map.proofs.NewPlaces.{fit_by}
use Rattle.aig_convert.proofs.mapped.image_in_order.Goals as goal

pub record_new_map-requires-clause-fits : goal.record_new_map-requires-clause-fits
record_new_map-requires-clause-fits c = search (rules, few_before_gates, as_many_inputs, as_many_latches)

pub record_new_map-requires-clause-small : goal.record_new_map-requires-clause-small
record_new_map-requires-clause-small c =
    subst (λ (d : Circuit). AllByRecursion (λ (g : Gate). g.var ≤ LARGEST) d.gates) (sym c.by_numbers-new.ensures)
    (fit_by (number_of c.args.renumbering.numbers) c.requires.of_it.small c.args.circuit.gates)

pub sort_all-requires : goal.sort_all-requires
sort_all-requires c = search (rules, definitions_fit, as_many_inputs, as_many_latches, as_many_gates)

abbrev made_here : goal.After-sort_all → Circuit
made_here c = made c.args.circuit c.args.renumbering c.requires.good c.requires.of_it c.requires.in_order

same : (c : goal.After-sort_all) → c.sort_all.result ≡ made_here c
same c = c.sort_all.ensures ∙ ap all_sorted c.by_numbers-new.ensures

is_good : (c : goal.After-sort_all) → IsWellFormed (made_here c) × IsInBinaryOrder (made_here c)
is_good c =
    image_is_ordered c.args.circuit (made_here c) c.requires.good
    (made_is c.args.circuit c.args.renumbering c.requires.good c.requires.of_it c.requires.in_order)

pub from_well_ordered-image-requires-clause-well_formed : goal.from_well_ordered-image-requires-clause-well_formed
from_well_ordered-image-requires-clause-well_formed c = subst IsWellFormed (sym (same c)) (is_good c).0

pub from_well_ordered-image-requires-clause-in_order : goal.from_well_ordered-image-requires-clause-in_order
from_well_ordered-image-requires-clause-in_order c = subst IsInBinaryOrder (sym (same c)) (is_good c).1

pub returns : goal.returns
returns c =
    let old = c.args.circuit in
    let block = c.in-Ok.block in
    let tells = c.in-Ok.ensures (number_of c.args.renumbering.numbers) old c.requires.kept c.by_numbers-new.ensures in
    let image = c.from_well_ordered-image.ensures ∙ c.sort_all.ensures ∙ ap all_sorted c.by_numbers-new.ensures in
    subst (IsMappedImage old) (sym (c.new.ensures ∙ ap (with_block block) image))
    (is_mapped_image old c.args.renumbering block
    (made old c.args.renumbering c.requires.good c.requires.of_it c.requires.in_order) c.requires.good c.requires.of_it
    tells (made_is old c.args.renumbering c.requires.good c.requires.of_it c.requires.in_order))
