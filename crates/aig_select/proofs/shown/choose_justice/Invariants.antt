use Rattle.aig_select.proofs.Properties.{AreTaken}
use Rattle.aig_select.proofs.shown.choose_justice.Given as goal

abbrev pub invariant-loop-at : goal.invariant-loop-at
invariant-loop-at l = AreTaken l.marks l.justice l.sizes.items l.literals.items l.rest l.at
