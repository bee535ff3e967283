use Rattle.std.proofs.Common.{◌≡◌, ◌+◌, ◌++◌, take}
use Rattle.aig_text.specs.Parts.NextStates.{latches_by}
use Rattle.aig_text.proofs.section.add_latches.Given as goal

abbrev pub invariant-loop-next : goal.invariant-loop-next
invariant-loop-next l =
    (l.latches ≡ l.fn.latches ++ latches_by l.variable (take l.next-index l.nexts))
    × (l.var ≡ l.variable + l.next-index)
