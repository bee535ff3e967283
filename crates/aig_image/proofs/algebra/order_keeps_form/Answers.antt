use Rattle.aig_image.proofs.Relabelling.Permuted.{order_keeps_form}
use Rattle.aig_image.proofs.algebra.order_keeps_form.Goals as goal

pub returns : goal.returns
returns _ = order_keeps_form
