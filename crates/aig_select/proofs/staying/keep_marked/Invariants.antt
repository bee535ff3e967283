use Rattle.aig_select.proofs.Keeping.{IsMoved}
use Rattle.aig_select.proofs.staying.keep_marked.Given as goal

abbrev pub invariant-loop-at : goal.invariant-loop-at
invariant-loop-at g l = IsMoved l.marks l.fn.items l.items l.kept l.at
