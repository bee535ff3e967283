use Rattle.aig_commands.proofs.Compared.{never_means_alike}
use Rattle.aig_commands.proofs.comparing_laws.never_means_alike.Goals as goal

pub returns : goal.returns
returns c = never_means_alike
