use Rattle.aig_claims.proofs.Marking.{marked_runs_are_runs}
use Rattle.aig_claims.proofs.laws.marked_runs_are_runs.Goals as goal

pub returns : goal.returns
returns c = marked_runs_are_runs
