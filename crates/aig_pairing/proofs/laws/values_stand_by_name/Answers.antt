use Rattle.aig_pairing.proofs.Ordered.{values_stand_by_name}
use Rattle.aig_pairing.proofs.laws.values_stand_by_name.Goals as goal

pub returns : goal.returns
returns c = values_stand_by_name
