use Rattle.aig_image.proofs.Relabelling.Permuted.{exchange_keeps_form}
use Rattle.aig_image.proofs.algebra.exchange_keeps_form.Goals as goal

pub returns : goal.returns
returns _ = exchange_keeps_form
