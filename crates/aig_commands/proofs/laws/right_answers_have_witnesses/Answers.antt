use Rattle.aig_commands.proofs.RightAnswers.{right_answers_have_witnesses}
use Rattle.aig_commands.proofs.laws.right_answers_have_witnesses.Goals as goal

pub returns : goal.returns
returns c = right_answers_have_witnesses
