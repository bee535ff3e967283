use Rattle.aig_image.proofs.Imaging.Ordered.{image_is_one}
use Rattle.aig_image.proofs.laws.image_is_one.Goals as goal

pub returns : goal.returns
returns _ c good = image_is_one c
