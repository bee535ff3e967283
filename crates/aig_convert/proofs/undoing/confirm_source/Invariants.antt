use Rattle.aig_convert.proofs.undoing.confirm_source.Given as goal

abbrev pub ghost-has_image : goal.ghost-has_image
ghost-has_image g a = g.mapped
