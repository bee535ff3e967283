use Rattle.aig_select.proofs.Back.{selection_has_no_others}
use Rattle.aig_select.proofs.laws.selection_has_no_others.Goals as goal

pub returns : goal.returns
returns c = selection_has_no_others
