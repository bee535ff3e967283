use Rattle.aig_commands.proofs.Unrollings.{simplified_unrollings_mean_the_same}
use Rattle.aig_commands.proofs.laws.simplified_unrollings_mean_the_same.Goals as goal

pub returns : goal.returns
returns c = simplified_unrollings_mean_the_same
