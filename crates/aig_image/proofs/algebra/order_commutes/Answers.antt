use Rattle.aig_image.proofs.Relabelling.Relabelled.{order_commutes}
use Rattle.aig_image.proofs.algebra.order_commutes.Goals as goal

pub returns : goal.returns
returns _ = order_commutes
