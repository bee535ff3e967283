use Rattle.std.proofs.Common.{◌≡◌, ◌+◌, ◌++◌, take}
use Rattle.aig_step.specs.TraceText.{values_text}
use Rattle.aig_step.proofs.trace.write_values.Given as goal

abbrev pub invariant-loop-i : goal.invariant-loop-i
invariant-loop-i l = take (l.at + l.i) l.line ≡ take l.at l.fn.line ++ values_text (take l.i l.values)
