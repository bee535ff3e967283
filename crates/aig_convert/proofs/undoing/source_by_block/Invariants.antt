use Rattle.aig_convert.proofs.undoing.source_by_block.Given as goal

abbrev pub ghost-source_by_places : goal.ghost-source_by_places
ghost-source_by_places g a = g.mapped
