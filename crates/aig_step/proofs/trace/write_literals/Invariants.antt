use Rattle.std.proofs.Common.{◌≡◌, ◌+◌, ◌++◌, map, take}
use Rattle.aig_meaning.specs.Meaning.{literal_value}
use Rattle.aig_step.specs.TraceText.{values_text}
use Rattle.aig_step.specs.Parts.Tables.{read_from}
use Rattle.aig_step.proofs.trace.write_literals.Given as goal

abbrev pub invariant-loop-i : goal.invariant-loop-i
invariant-loop-i l =
    take (l.at + l.i) l.line
    ≡ take l.at l.fn.line ++ values_text (map (literal_value (read_from l.values)) (take l.i l.literals))
