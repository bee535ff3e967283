use Rattle.aig_commands.proofs.GoingBack.{refutations_go_back}
use Rattle.aig_commands.proofs.laws.refutations_go_back.Goals as goal

pub returns : goal.returns
returns c = refutations_go_back
