use Rattle.std.proofs.Common.{◌∷◌, [], arith}
use Rattle.aig_wave.proofs.Waved.{took_line}
use Rattle.aig_wave.proofs.wave.WaveTakerRowTaker.take_stop.Goals as goal

pub returns : goal.returns
returns g c = took_line _ _ (46 ∷ []) ((λ e. omega (arith, e)), tt) c.take_line.ensures.point c.take_line.ensures.put
