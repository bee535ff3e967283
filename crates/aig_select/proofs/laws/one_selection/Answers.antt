use Rattle.aig_select.proofs.Own.{one_selection}
use Rattle.aig_select.proofs.laws.one_selection.Goals as goal

pub returns : goal.returns
returns c = one_selection
