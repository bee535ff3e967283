use Rattle.std.proofs.Common.{◌≡◌, map, take, flat_map}
use Rattle.aig_lanes.specs.declared.run.Run.{Run}
use Rattle.aig_step.specs.TraceText.{values_text}
use Rattle.aig_runs.proofs.stimuli.texts_of.Given as goal

abbrev pub invariant-loop-run : goal.invariant-loop-run
invariant-loop-run l =
    l.texts.items ≡ map (λ (run : Run). flat_map values_text run.steps) (take l.run-index l.runs)
