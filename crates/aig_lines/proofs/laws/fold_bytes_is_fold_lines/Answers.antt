use Rattle.aig_lines.proofs.Tells.{bytes_folded}
use Rattle.aig_lines.proofs.laws.fold_bytes_is_fold_lines.Goals as goal

pub returns : goal.returns
returns g c = λ limit s bytes over. bytes_folded g.T.LineTaker.step over limit s bytes
