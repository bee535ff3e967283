use Rattle.std.proofs.Common.{◌≡◌, take, flat_map}
use Rattle.aig_step.specs.TraceText.{values_text}
use Rattle.aig_runs.proofs.stimuli.text_of_run.Given as goal

abbrev pub invariant-loop-given : goal.invariant-loop-given
invariant-loop-given l = l.text ≡ flat_map values_text (take l.given-index l.given-items)
