use Rattle.aig_pairing.proofs.Ordered.{ordered_is_well_formed}
use Rattle.aig_pairing.proofs.laws.ordered_is_well_formed.Goals as goal

pub returns : goal.returns
returns c = ordered_is_well_formed
