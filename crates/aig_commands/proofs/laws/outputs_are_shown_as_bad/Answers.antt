use Rattle.aig_commands.proofs.OutputsAsBad.{outputs_are_shown_as_bad}
use Rattle.aig_commands.proofs.laws.outputs_are_shown_as_bad.Goals as goal

pub returns : goal.returns
returns c = outputs_are_shown_as_bad
