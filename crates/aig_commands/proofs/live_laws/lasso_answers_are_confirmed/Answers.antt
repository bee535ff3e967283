use Rattle.aig_commands.proofs.Live.{lasso_answers_are_confirmed}
use Rattle.aig_commands.proofs.live_laws.lasso_answers_are_confirmed.Goals as goal

pub returns : goal.returns
returns c = lasso_answers_are_confirmed
