use Rattle.aig_answer.proofs.Answers.{statuses_are_read}
use Rattle.aig_answer.proofs.laws.statuses_are_read.Goals as goal

pub returns : goal.returns
returns c = statuses_are_read
