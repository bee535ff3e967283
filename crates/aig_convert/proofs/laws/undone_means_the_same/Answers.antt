use Rattle.aig_convert.proofs.Meaning.{undone_means_the_same}
use Rattle.aig_convert.proofs.laws.undone_means_the_same.Goals as goal

pub returns : goal.returns
returns c = undone_means_the_same
