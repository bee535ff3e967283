-- Runs of a circuit from its reset state, and their traces.
use Rattle.std.specs.Prelude.{◌≡◌, List, length, map}
use Rattle.std.specs.List.{All}
use Rattle.aig_circuit.specs.declared.circuit.Circuit.{Circuit}
use Rattle.aig_circuit.specs.declared.value.Val.{Val}
use Rattle.aig_meaning.specs.Meaning.{Row}
use Rattle.aig_meaning.specs.Trace.{IsTrace, reset_state}
use Rattle.aig_lanes.specs.declared.run.FullRow.{FullRow}
use Rattle.aig_lanes.specs.declared.run.Run.{Run}
use Rattle.aig_lanes.specs.declared.run.Trace.{Trace}

-- the run has a value for each of the circuit's inputs in each step
abbrev pub IsRunOf : Circuit → Run → Type 0
IsRunOf c run = All (λ (vector : List Val). length vector ≡ length c.inputs) run.steps

-- the row that is shown
abbrev pub row_of : FullRow → Row
row_of full = record {
  state = full.state;
  inputs = full.inputs;
  outputs = full.outputs;
  next = full.next;
  bad = full.bad;
  constraints = full.constraints;
}

-- the trace is the circuit's trace of the run, from the reset state
abbrev pub IsTraceOf : Circuit → Run → Trace → Type 0
IsTraceOf c run trace = IsTrace c (reset_state c) run.steps (map row_of trace.rows)
