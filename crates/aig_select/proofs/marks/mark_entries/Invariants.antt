use Rattle.std.proofs.Common.{◌≡◌, map, take}
use Rattle.std.specs.FinSet as set
use Rattle.aig_select.proofs.marks.mark_entries.Given as goal

abbrev pub invariant-loop-entry : goal.invariant-loop-entry
invariant-loop-entry g l =
    l.marks.items ≡ map (λ e. set.contains l.variables (g.T.Defines.variable e)) (take l.entry-index l.entries)
