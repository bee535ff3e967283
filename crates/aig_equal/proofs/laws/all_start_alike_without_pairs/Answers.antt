use Rattle.aig_equal.proofs.Whole.{all_start_alike_without_pairs}
use Rattle.aig_equal.proofs.laws.all_start_alike_without_pairs.Goals as goal

pub returns : goal.returns
returns c = all_start_alike_without_pairs
