use Rattle.std.proofs.Common.{◌++◌, List, sym, subst, ◌∙◌}
use Rattle.std.specs.List.{AllZip}
use Rattle.aig_circuit.specs.declared.circuit.Circuit.{Circuit}
use Rattle.aig_rows.proofs.Grammar.Entries.{zips_joined}
use Rattle.aig_lanes.specs.declared.run.Run.{Run}
use Rattle.aig_lanes.specs.declared.run.Trace.{Trace}
use Rattle.aig_lanes.specs.Runs.{IsTraceOf}
use Rattle.aig_runs.proofs.batch.trace_runs.Goals as goal

pub returns : goal.returns
returns c =
    let circuit = c.args.simulator.now.circuit in
    let runs = c.args.runs.now in
    let front = c.split_at.result.0.now in
    let rest = c.split_at.result.1.now in
    let traces = c.in_ok-traces.traces.items in
    let more = c.in_ok-trace_alone.field-0.items in
    let grouped : AllZip (IsTraceOf circuit) front traces =
    subst (λ (k : Circuit). AllZip (IsTraceOf k) front traces) c.machine.ensures c.in_ok-traces.ensures in
    let joined : AllZip (IsTraceOf circuit) (front ++ rest) (traces ++ more) =
    zips_joined (IsTraceOf circuit) front rest traces more grouped c.in_ok-trace_alone.ensures in
    subst (λ (ts : List Trace). AllZip (IsTraceOf circuit) runs ts) (sym (c.from_vec.ensures ∙ c.in_ok-append.ensures))
    (subst (λ (rs : List Run). AllZip (IsTraceOf circuit) rs (traces ++ more)) (sym c.split_at.ensures.by_index.0)
    joined)
