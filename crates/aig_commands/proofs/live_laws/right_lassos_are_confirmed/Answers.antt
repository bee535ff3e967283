use Rattle.aig_commands.proofs.Live.{right_lassos_are_confirmed}
use Rattle.aig_commands.proofs.live_laws.right_lassos_are_confirmed.Goals as goal

pub returns : goal.returns
returns c = right_lassos_are_confirmed
