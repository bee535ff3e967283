use Rattle.aig_commands.proofs.GoingBack.{invariants_go_back}
use Rattle.aig_commands.proofs.laws.invariants_go_back.Goals as goal

pub returns : goal.returns
returns c = invariants_go_back
