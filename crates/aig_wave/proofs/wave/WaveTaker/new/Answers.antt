use Rattle.aig_wave.proofs.Waved.{dumps_nothing}
use Rattle.aig_wave.proofs.wave.WaveTaker.new.Goals as goal

pub returns-clause-begun : goal.returns-clause-begun
returns-clause-begun g c = dumps_nothing _ _ c.into_dump_state.ensures
