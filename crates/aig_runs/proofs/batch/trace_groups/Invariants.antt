use Rattle.std.specs.Prelude.{◌-◌, ◌≤◌, length, take}
use Rattle.std.specs.List.{AllZip}
use Rattle.aig_lanes.specs.Runs.{IsTraceOf}
use Rattle.aig_runs.proofs.batch.trace_groups.Given as goal

abbrev pub invariant-loop-done : goal.invariant-loop-done
invariant-loop-done l = record {
  within : l.done ≤ length l.runs;
  traced : AllZip (IsTraceOf l.machine) (take l.done l.runs) l.traces.items;
}

abbrev pub decreases-loop-done : goal.decreases-loop-done
decreases-loop-done l = length l.runs - l.done
