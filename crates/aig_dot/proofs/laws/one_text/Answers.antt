use Rattle.aig_dot.proofs.LawsProved.{one_text}
use Rattle.aig_dot.proofs.laws.one_text.Goals as goal

pub returns : goal.returns
returns c = one_text
