use Rattle.aig_commands.proofs.Live.{refutations_mean_no_lasso}
use Rattle.aig_commands.proofs.laws.refutations_mean_no_lasso.Goals as goal

pub returns : goal.returns
returns c = refutations_mean_no_lasso
