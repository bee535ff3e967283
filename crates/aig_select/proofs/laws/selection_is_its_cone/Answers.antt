use Rattle.aig_select.proofs.Own.{selection_is_its_cone}
use Rattle.aig_select.proofs.laws.selection_is_its_cone.Goals as goal

pub returns : goal.returns
returns c = selection_is_its_cone
