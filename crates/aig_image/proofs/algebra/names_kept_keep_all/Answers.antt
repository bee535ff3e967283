use Rattle.aig_image.proofs.Relabelling.Relabelled.{names_kept_keep_all}
use Rattle.aig_image.proofs.algebra.names_kept_keep_all.Goals as goal

pub returns : goal.returns
returns _ = names_kept_keep_all
