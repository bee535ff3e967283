use Rattle.aig_image.proofs.Numbering.Kept.{AreMadeSoFar}
use Rattle.aig_image.proofs.in_turn.number_in_turn.Given as goal

abbrev pub invariant-loop-at : goal.invariant-loop-at
invariant-loop-at g l = AreMadeSoFar (g.F.FirstVariables.variables l.first) l.fn.gates l.gates l.numbers l.at
