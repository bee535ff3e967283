use Rattle.aig_core.proofs.Checking.Reported.{repeats_are_found, no_repeat_where_distinct}
use Rattle.aig_core.proofs.laws.repeats_are_found.Goals as goal

pub returns : goal.returns
returns c = record { some = repeats_are_found; none = no_repeat_where_distinct }
