use Rattle.aig_replay.proofs.BadAlone.{refuted_means_none}
use Rattle.aig_replay.proofs.laws.refuted_means_none.Goals as goal

pub returns : goal.returns
returns c = refuted_means_none
