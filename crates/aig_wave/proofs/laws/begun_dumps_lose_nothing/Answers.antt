use Rattle.aig_wave.proofs.Retold.{begun_dumps_lose_nothing}
use Rattle.aig_wave.proofs.laws.begun_dumps_lose_nothing.Goals as goal

pub returns : goal.returns
returns c = begun_dumps_lose_nothing
