use Rattle.aig_replay.proofs.ByAnswer.{answers_have_one_witness}
use Rattle.aig_replay.proofs.laws.answers_have_one_witness.Goals as goal

pub returns : goal.returns
returns c = answers_have_one_witness
