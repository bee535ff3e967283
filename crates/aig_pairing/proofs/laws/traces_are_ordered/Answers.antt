use Rattle.aig_pairing.proofs.OrderedRows.{traces_are_ordered}
use Rattle.aig_pairing.proofs.laws.traces_are_ordered.Goals as goal

pub returns : goal.returns
returns c = traces_are_ordered
