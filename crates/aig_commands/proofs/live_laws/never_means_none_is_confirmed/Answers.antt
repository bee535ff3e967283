use Rattle.aig_commands.proofs.Live.{never_means_none_is_confirmed}
use Rattle.aig_commands.proofs.live_laws.never_means_none_is_confirmed.Goals as goal

pub returns : goal.returns
returns c = never_means_none_is_confirmed
