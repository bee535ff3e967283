use Rattle.aig_image.proofs.Relabelling.Permuted.{converted_is_restored}
use Rattle.aig_image.proofs.algebra.converted_is_restored.Goals as goal

pub returns : goal.returns
returns _ = converted_is_restored
