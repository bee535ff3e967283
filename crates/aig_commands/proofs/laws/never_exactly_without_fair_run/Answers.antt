use Rattle.aig_commands.proofs.Live.{never_exactly_without_fair_run}
use Rattle.aig_commands.proofs.laws.never_exactly_without_fair_run.Goals as goal

pub returns : goal.returns
returns c = never_exactly_without_fair_run
