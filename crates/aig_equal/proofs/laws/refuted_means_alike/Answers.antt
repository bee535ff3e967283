use Rattle.aig_equal.proofs.Whole.{refuted_means_alike}
use Rattle.aig_equal.proofs.laws.refuted_means_alike.Goals as goal

pub returns : goal.returns
returns c = refuted_means_alike
