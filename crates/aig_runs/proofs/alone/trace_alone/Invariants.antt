use Rattle.std.specs.Prelude.{◌≡◌, take}
use Rattle.std.specs.List.{AllZip}
use Rattle.aig_lanes.specs.Runs.{IsTraceOf}
use Rattle.aig_runs.proofs.alone.trace_alone.Given as goal

abbrev pub invariant-loop-run : goal.invariant-loop-run
invariant-loop-run l = record {
  circuit : l.simulator.circuit ≡ l.fn.simulator.circuit;
  traced : AllZip (IsTraceOf l.fn.simulator.circuit) (take l.run-index l.runs) l.traces.items;
}
