use Rattle.aig_commands.proofs.Reachings.{solver_answers_are_confirmed}
use Rattle.aig_commands.proofs.laws.solver_answers_are_confirmed.Goals as goal

pub returns : goal.returns
returns c = solver_answers_are_confirmed
