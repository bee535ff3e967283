use Rattle.aig_replay.proofs.Claimed.{answers_are_found}
use Rattle.aig_replay.proofs.laws.answers_are_found.Goals as goal

pub returns : goal.returns
returns c = answers_are_found
