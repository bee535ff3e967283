use Rattle.aig_commands.proofs.TripsExist.{there_and_back}
use Rattle.aig_commands.proofs.laws.files_convert_there_and_back.Goals as goal

pub returns : goal.returns
returns c = there_and_back
