use Rattle.std.proofs.Common.{◌≡◌, length, All}
use Rattle.aig_lanes.specs.declared.run.Run.{Run}
use Rattle.aig_lanes.proofs.bench.one_step_each.Given as goal

abbrev pub invariant-loop-lane : goal.invariant-loop-lane
invariant-loop-lane l = record {
  size : length l.runs.items ≡ l.lane;
  steps : All (λ (run : Run). length run.steps ≡ 1) l.runs.items;
}
