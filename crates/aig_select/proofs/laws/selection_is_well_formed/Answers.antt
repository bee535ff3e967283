use Rattle.aig_select.proofs.Selected.{selection_is_well_formed}
use Rattle.aig_select.proofs.laws.selection_is_well_formed.Goals as goal

pub returns : goal.returns
returns c = selection_is_well_formed
