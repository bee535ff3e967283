use Rattle.aig_commands.proofs.Traces.{simulation_text_exists}
use Rattle.aig_commands.proofs.laws.simulation_texts_exist.Goals as goal

pub returns : goal.returns
returns c = simulation_text_exists
