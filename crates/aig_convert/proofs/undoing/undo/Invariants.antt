use Rattle.aig_convert.proofs.undoing.undo.Given as goal

abbrev pub ghost-recover : goal.ghost-recover
ghost-recover a = a.image
