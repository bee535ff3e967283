use Rattle.aig_dot.proofs.LawsProved.{picture_has_the_gates}
use Rattle.aig_dot.proofs.laws.picture_has_the_gates.Goals as goal

pub returns : goal.returns
returns c = picture_has_the_gates
