use Rattle.aig_image.proofs.Relabelling.Formed.{form_is_kept}
use Rattle.aig_image.proofs.algebra.form_is_kept.Goals as goal

pub returns : goal.returns
returns _ = form_is_kept
