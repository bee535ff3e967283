use Rattle.aig_lines.proofs.Tells.{fold_twice}
use Rattle.aig_lines.proofs.laws.fold_in_pieces.Goals as goal

pub returns : goal.returns
returns g c = λ f a b. fold_twice g.T.LineTaker.step f a b
