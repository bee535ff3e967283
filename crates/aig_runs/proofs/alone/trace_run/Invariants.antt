use Rattle.std.specs.Prelude.{◌≡◌, map, take}
use Rattle.aig_meaning.specs.Trace.{IsTrace, reset_state, state_after}
use Rattle.aig_lanes.specs.Runs.{row_of}
use Rattle.aig_runs.proofs.alone.trace_run.Given as goal

abbrev pub invariant-loop-given : goal.invariant-loop-given
invariant-loop-given l = record {
  circuit : l.simulator.circuit ≡ l.fn.simulator.circuit;
  traced : IsTrace l.fn.simulator.circuit (reset_state l.fn.simulator.circuit) (take l.given-index l.given-items)
      (map row_of l.rows);
  state : l.simulator.state ≡ state_after (reset_state l.fn.simulator.circuit) (map row_of l.rows);
}
