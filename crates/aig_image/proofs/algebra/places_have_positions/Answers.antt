use Rattle.aig_image.proofs.Numbering.Places.{places_have_positions}
use Rattle.aig_image.proofs.algebra.places_have_positions.Goals as goal

pub returns : goal.returns
returns _ = places_have_positions
