use Rattle.aig_wave.proofs.Alike.{same_wave}
use Rattle.aig_wave.proofs.laws.same_shown_same_wave.Goals as goal

pub returns : goal.returns
returns c = same_wave
