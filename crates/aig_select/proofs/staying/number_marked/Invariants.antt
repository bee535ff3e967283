use Rattle.std.proofs.Common.{◌≡◌, ◌≤◌, ◌++◌, drop}
use Rattle.aig_select.specs.Staying.{numbered}
use Rattle.aig_select.proofs.staying.number_marked.Given as goal

abbrev pub invariant-loop-mark : goal.invariant-loop-mark
invariant-loop-mark l = record {
  done : l.places.items ++ numbered l.next (drop l.mark-index l.marks) ≡ numbered 0 l.marks;
  few : l.next ≤ l.mark-index;
}
