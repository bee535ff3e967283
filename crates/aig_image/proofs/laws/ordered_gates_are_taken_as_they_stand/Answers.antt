use Rattle.aig_image.proofs.Imaging.OwnImage.{in_order}
use Rattle.aig_image.proofs.laws.ordered_gates_are_taken_as_they_stand.Goals as goal

pub returns : goal.returns
returns c = in_order
