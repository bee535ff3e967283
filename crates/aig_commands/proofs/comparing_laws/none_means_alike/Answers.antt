use Rattle.aig_commands.proofs.Compared.{none_means_alike}
use Rattle.aig_commands.proofs.comparing_laws.none_means_alike.Goals as goal

pub returns : goal.returns
returns c = none_means_alike
