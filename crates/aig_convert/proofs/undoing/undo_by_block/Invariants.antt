use Rattle.aig_convert.proofs.undoing.undo_by_block.Given as goal

abbrev pub ghost-source_by_block : goal.ghost-source_by_block
ghost-source_by_block g a = g.mapped
