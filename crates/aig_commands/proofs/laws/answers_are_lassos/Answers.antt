use Rattle.aig_commands.proofs.Live.{answers_are_lassos}
use Rattle.aig_commands.proofs.laws.answers_are_lassos.Goals as goal

pub returns : goal.returns
returns c = answers_are_lassos
