use Rattle.aig_commands.proofs.Refutings.{refutations_mean_none}
use Rattle.aig_commands.proofs.laws.refutations_mean_none.Goals as goal

pub returns : goal.returns
returns c = refutations_mean_none
