use Rattle.aig_core.proofs.Checking.Reported.{unknowns_are_found, none_unknown_where_known}
use Rattle.aig_core.proofs.laws.unknowns_are_found.Goals as goal

pub returns : goal.returns
returns c = record { some = unknowns_are_found; none = none_unknown_where_known }
