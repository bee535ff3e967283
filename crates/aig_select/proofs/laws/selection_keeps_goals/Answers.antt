use Rattle.aig_select.proofs.Goals.{selection_keeps_goals}
use Rattle.aig_select.proofs.laws.selection_keeps_goals.Goals as goal

pub returns : goal.returns
returns c = selection_keeps_goals
