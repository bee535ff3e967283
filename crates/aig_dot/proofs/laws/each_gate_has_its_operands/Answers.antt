use Rattle.aig_dot.proofs.LawsProved.{each_gate_has_its_operands}
use Rattle.aig_dot.proofs.laws.each_gate_has_its_operands.Goals as goal

pub returns : goal.returns
returns c = each_gate_has_its_operands
