use Rattle.std.proofs.Common.{◌≡◌, ◌++◌, take, string_bytes}
use Rattle.aig_step.specs.TraceText.{values_text}
use Rattle.example_steps.proofs.push_column.Given as goal

abbrev pub invariant-loop-value : goal.invariant-loop-value
invariant-loop-value l = string_bytes l.line ≡ string_bytes l.fn.line ++ values_text (take l.value-index l.values)
