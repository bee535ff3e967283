use Rattle.aig_answer.proofs.Answers.{answers_are_read}
use Rattle.aig_answer.proofs.laws.answers_are_read.Goals as goal

pub returns : goal.returns
returns c = answers_are_read
