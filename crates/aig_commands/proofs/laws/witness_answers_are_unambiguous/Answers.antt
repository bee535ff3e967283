use Rattle.aig_commands.proofs.Verdicts.{one_witness_answer}
use Rattle.aig_commands.proofs.laws.witness_answers_are_unambiguous.Goals as goal

pub returns : goal.returns
returns c = one_witness_answer
