use Rattle.aig_commands.proofs.Live.{confirmed_claims_are_lassos}
use Rattle.aig_commands.proofs.laws.confirmed_claims_are_lassos.Goals as goal

pub returns : goal.returns
returns c = confirmed_claims_are_lassos
