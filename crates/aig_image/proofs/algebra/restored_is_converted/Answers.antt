use Rattle.aig_image.proofs.Relabelling.Permuted.{restored_is_converted}
use Rattle.aig_image.proofs.algebra.restored_is_converted.Goals as goal

pub returns : goal.returns
returns _ = restored_is_converted
