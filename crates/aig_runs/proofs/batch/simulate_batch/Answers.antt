use Rattle.std.proofs.Common.{◌∙◌, List}
use Rattle.std.specs.List.{AllZip}
use Rattle.std.proofs.lemmas.Result.{IfOk-weaker}
use Rattle.aig_meaning.proofs.Related.{all_zip_weaker}
use Rattle.aig_lanes.specs.declared.run.Trace.{Trace}
use Rattle.aig_lanes.specs.Runs.{IsTraceOf}
use Rattle.aig_lanes.proofs.Side.Sheets.{same_trace_of}
use Rattle.aig_step.proofs.LineValues.{same_size}
use Rattle.aig_runs.proofs.batch.simulate_batch.Goals as goal

pub returns : goal.returns
returns c =
    let checked = c.args.checked.now in
    let circuit = c.in_ok-simulator.simulator.circuit in
    let runs = c.args.runs.now in
    IfOk-weaker c.trace_runs.result (λ (traces : List Trace). AllZip (IsTraceOf circuit) runs traces)
    (λ (traces : List Trace). AllZip (IsTraceOf checked) runs traces)
    (λ traces each.
    all_zip_weaker (IsTraceOf circuit) (IsTraceOf checked)
    (λ run trace is. same_trace_of checked circuit run trace c.in_ok-simulator.ensures.same is) runs traces each)
    c.trace_runs.ensures

pub trace_runs-requires-clause-line : goal.trace_runs-requires-clause-line
trace_runs-requires-clause-line c =
    c.line_room.ensures.size
    ∙ same_size c.args.checked.now c.in_ok-simulator.simulator.circuit c.line_room.ensures.formed
    c.in_ok-simulator.ensures.same
