use Rattle.aig_dot.proofs.LawsProved.{whole_picture_has_all_gates}
use Rattle.aig_dot.proofs.laws.whole_picture_has_all_gates.Goals as goal

pub returns : goal.returns
returns c = whole_picture_has_all_gates
