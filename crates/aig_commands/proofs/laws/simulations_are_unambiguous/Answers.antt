use Rattle.aig_commands.proofs.Traces.{one_simulation_text}
use Rattle.aig_commands.proofs.laws.simulations_are_unambiguous.Goals as goal

pub returns : goal.returns
returns c = one_simulation_text
