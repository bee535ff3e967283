use Rattle.aig_commands.proofs.Verdicts.{witness_answer_exists}
use Rattle.aig_commands.proofs.laws.witness_answers_exist.Goals as goal

pub returns : goal.returns
returns c = witness_answer_exists
