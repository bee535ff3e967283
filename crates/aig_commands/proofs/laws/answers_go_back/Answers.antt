use Rattle.aig_commands.proofs.GoingBack.{answers_go_back}
use Rattle.aig_commands.proofs.laws.answers_go_back.Goals as goal

pub returns : goal.returns
returns c = answers_go_back
