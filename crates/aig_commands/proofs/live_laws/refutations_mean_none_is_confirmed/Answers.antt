use Rattle.aig_commands.proofs.Live.{refutations_mean_none_is_confirmed}
use Rattle.aig_commands.proofs.live_laws.refutations_mean_none_is_confirmed.Goals as goal

pub returns : goal.returns
returns c = refutations_mean_none_is_confirmed
