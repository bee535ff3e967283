use Rattle.aig_image.proofs.Imaging.Ordered.{image_is_ordered}
use Rattle.aig_image.proofs.laws.image_is_ordered.Goals as goal

pub returns : goal.returns
returns c = image_is_ordered
