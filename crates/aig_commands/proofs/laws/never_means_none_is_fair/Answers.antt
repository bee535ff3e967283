use Rattle.aig_commands.proofs.Live.{never_means_none_is_fair}
use Rattle.aig_commands.proofs.laws.never_means_none_is_fair.Goals as goal

pub returns : goal.returns
returns c = never_means_none_is_fair
