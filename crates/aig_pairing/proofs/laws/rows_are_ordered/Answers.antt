use Rattle.aig_pairing.proofs.OrderedRows.{rows_are_ordered}
use Rattle.aig_pairing.proofs.laws.rows_are_ordered.Goals as goal

pub returns : goal.returns
returns c = rows_are_ordered
