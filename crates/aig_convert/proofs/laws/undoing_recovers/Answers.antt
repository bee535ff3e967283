use Rattle.aig_map.proofs.Sources.OneSource.{undoing_recovers}
use Rattle.aig_convert.proofs.laws.undoing_recovers.Goals as goal

pub returns : goal.returns
returns c = undoing_recovers
