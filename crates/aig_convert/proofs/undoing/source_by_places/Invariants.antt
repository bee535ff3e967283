use Rattle.aig_map.specs.Parts.Tables.{block_read}
use Rattle.aig_convert.proofs.undoing.source_by_places.Given as goal

abbrev pub ghost-make_undone : goal.ghost-make_undone
ghost-make_undone g a = block_read g.mapped

abbrev pub ghost-confirm_source : goal.ghost-confirm_source
ghost-confirm_source g a = g.mapped
