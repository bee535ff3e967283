use Rattle.std.proofs.Common.{◌∙◌, ap}
use Rattle.aig_binary.specs.Delta.{delta_at}
use Rattle.aig_binary.proofs.Deltas.Reading.{delta_is, delta_read}
use Rattle.aig_binary.proofs.laws.deltas_are_read_exactly.Goals as goal

pub returns : goal.returns
returns c = λ bytes rest value. (delta_is bytes rest value, λ h. ap delta_at h.1 ∙ delta_read h.0 rest value h.2)
