use Rattle.aig_wave.proofs.Retold.{dumps_lose_nothing}
use Rattle.aig_wave.proofs.laws.dumps_lose_nothing.Goals as goal

pub returns : goal.returns
returns c = dumps_lose_nothing
