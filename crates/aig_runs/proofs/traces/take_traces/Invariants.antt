use Rattle.std.specs.Prelude.{◌≡◌, ◌<◌, ℕ, length, slice_index_or, take}
use Rattle.std.specs.List.{AllZip}
use Rattle.aig_circuit.specs.declared.circuit.Circuit.{Circuit}
use Rattle.aig_lanes.specs.declared.run.Run.{Run}
use Rattle.aig_lanes.specs.Parts.LaneTexts.{KeepsRun}
use Rattle.aig_lanes.specs.Runs.{IsTraceOf}
use Rattle.aig_runs.proofs.traces.take_traces.Given as goal

abbrev pub invariant-loop-lane : goal.invariant-loop-lane
invariant-loop-lane l = record {
  traced : (c : Circuit) → ((j : ℕ) (d : Run) → j < length l.runs
      → KeepsRun c (slice_index_or l.runs j d) j l.shown l.sheet)
      → AllZip (IsTraceOf c) (take l.lane l.runs) l.traces.items;
  line : length l.line ≡ length l.fn.line;
}
