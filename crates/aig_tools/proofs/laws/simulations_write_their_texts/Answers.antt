use Rattle.aig_tools.proofs.Tasks.{simulations_write_their_texts}
use Rattle.aig_tools.proofs.laws.simulations_write_their_texts.Goals as goal

pub returns : goal.returns
returns c = simulations_write_their_texts
