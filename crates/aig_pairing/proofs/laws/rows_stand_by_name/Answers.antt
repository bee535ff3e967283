use Rattle.aig_pairing.proofs.Ordered.{rows_stand_by_name}
use Rattle.aig_pairing.proofs.laws.rows_stand_by_name.Goals as goal

pub returns : goal.returns
returns c = rows_stand_by_name
