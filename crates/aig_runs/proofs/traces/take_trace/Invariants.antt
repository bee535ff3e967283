use Rattle.std.specs.Prelude.{◌≡◌, length, map, take}
use Rattle.aig_circuit.specs.declared.circuit.Circuit.{Circuit}
use Rattle.aig_lanes.specs.Parts.LaneTexts.{KeepsRun}
use Rattle.aig_lanes.specs.Runs.{row_of}
use Rattle.aig_runs.proofs.traces.take_trace.Given as goal

abbrev pub invariant-loop-step : goal.invariant-loop-step
invariant-loop-step l = record {
  rows : (c : Circuit) (keeps : KeepsRun c l.run l.lane l.shown l.sheet)
      → map row_of l.rows ≡ take l.step keeps.0;
  line : length l.line ≡ length l.fn.line;
}
