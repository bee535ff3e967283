use Rattle.aig_commands.proofs.Compared.{confirmed_means_different}
use Rattle.aig_commands.proofs.comparing_laws.confirmed_means_different.Goals as goal

pub returns : goal.returns
returns c = confirmed_means_different
