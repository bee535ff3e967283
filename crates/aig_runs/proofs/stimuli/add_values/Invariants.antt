use Rattle.std.specs.Prelude.{◌≡◌, ◌++◌, take}
use Rattle.aig_step.specs.TraceText.{values_text}
use Rattle.aig_runs.proofs.stimuli.add_values.Given as goal

abbrev pub invariant-loop-value : goal.invariant-loop-value
invariant-loop-value l = l.text ≡ l.fn.text ++ values_text (take l.value-index l.values)
