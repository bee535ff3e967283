use Rattle.aig_wave.proofs.Growing.{wave_grows}
use Rattle.aig_wave.proofs.laws.wave_grows.Goals as goal

pub returns : goal.returns
returns c = wave_grows
