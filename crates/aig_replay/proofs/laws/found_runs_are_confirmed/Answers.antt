use Rattle.aig_replay.proofs.Claimed.{found_runs_are_confirmed}
use Rattle.aig_replay.proofs.laws.found_runs_are_confirmed.Goals as goal

pub returns : goal.returns
returns c = found_runs_are_confirmed
