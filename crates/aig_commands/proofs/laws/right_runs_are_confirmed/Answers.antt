use Rattle.aig_commands.proofs.Verdicts.{right_run_is_confirmed}
use Rattle.aig_commands.proofs.laws.right_runs_are_confirmed.Goals as goal

pub returns : goal.returns
returns c = right_run_is_confirmed
