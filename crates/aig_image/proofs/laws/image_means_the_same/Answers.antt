use Rattle.aig_image.proofs.Meaning.{image_means_the_same}
use Rattle.aig_image.proofs.laws.image_means_the_same.Goals as goal

pub returns : goal.returns
returns c = image_means_the_same
