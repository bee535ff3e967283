use Rattle.aig_commands.proofs.Texts.{cut_begins}
use Rattle.aig_commands.proofs.unrolling.reduced_answer.Goals as goal

pub returns-in-Ok-clause-some : goal.returns-in-Ok-clause-some
returns-in-Ok-clause-some c = cut_begins c.in-Ok.plan c.in_ok-left.left
