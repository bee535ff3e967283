use Rattle.aig_convert.proofs.undoing.recover.Given as goal

abbrev pub ghost-undo_by_block : goal.ghost-undo_by_block
ghost-undo_by_block g a = g.mapped
