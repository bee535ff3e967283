use Rattle.aig_commands.proofs.Trips.{one_conversion}
use Rattle.aig_commands.proofs.laws.conversions_are_unambiguous.Goals as goal

pub returns : goal.returns
returns c = one_conversion
