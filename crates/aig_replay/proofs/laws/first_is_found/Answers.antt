use Rattle.aig_replay.proofs.FirstFound.{first_is_found}
use Rattle.aig_replay.proofs.laws.first_is_found.Goals as goal

pub returns : goal.returns
returns c = first_is_found
