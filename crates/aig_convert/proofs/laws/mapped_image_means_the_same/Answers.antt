use Rattle.aig_convert.proofs.Meaning.{mapped_image_means_the_same}
use Rattle.aig_convert.proofs.laws.mapped_image_means_the_same.Goals as goal

pub returns : goal.returns
returns c = mapped_image_means_the_same
