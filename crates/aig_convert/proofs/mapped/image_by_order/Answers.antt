use Rattle.std.proofs.Common.{◌≡◌, rules, subst, sym}
use Rattle.aig_image.specs.Parts.Numbers.{number_of}
use Rattle.aig_map.specs.MapBlock.{IsMappedImage, block_by}
use Rattle.aig_map.proofs.Mapping.{few_before_gates, is_mapped_image}
use Rattle.aig_convert.proofs.mapped.image_by_order.Goals as goal

pub record_map-requires-clause-fits : goal.record_map-requires-clause-fits
record_map-requires-clause-fits c = few_before_gates c.args.circuit c.requires.good

pub returns : goal.returns
returns c =
    let tells : c.in-Ok.block ≡ block_by (number_of c.args.renumbering.numbers) c.args.circuit = search rules in
    subst (IsMappedImage c.args.circuit) (sym c.new.ensures)
    (is_mapped_image c.args.circuit c.args.renumbering c.in-Ok.block c.image.result c.requires.good
    c.requires.of_it tells c.image.ensures)
