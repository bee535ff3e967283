use Rattle.aig_map.specs.Parts.Tables.{block_read}
use Rattle.aig_convert.proofs.undoing.has_image.Given as goal

abbrev pub ghost-tells_order : goal.ghost-tells_order
ghost-tells_order g a = block_read g.mapped
