use Rattle.std.proofs.Common.{◌≡◌, ◌+◌, ◌++◌, List, [], ◌∷◌, take, ap, sym, subst, ◌∙◌}
use Rattle.std.specs.List.{AllZip}
use Rattle.std.proofs.lemmas.List.{take_more}
use Rattle.aig_circuit.specs.declared.circuit.Circuit.{Circuit}
use Rattle.aig_rows.proofs.Grammar.Entries.{zips_joined}
use Rattle.aig_lanes.specs.declared.run.Run.{Run}
use Rattle.aig_lanes.specs.declared.run.Trace.{Trace}
use Rattle.aig_lanes.specs.Runs.{IsTraceOf}
use Rattle.aig_runs.proofs.alone.trace_alone.Goals as goal

pub loop-run-preserved : goal.loop-run-preserved
loop-run-preserved c =
    let circuit = c.args.simulator.now.circuit in
    let runs = c.args.runs.now in
    let i = c.loop-run.run-index in
    let run = c.run-item.result in
    let trace = c.in_ok-trace.trace in
    let is_trace : IsTraceOf circuit run trace =
    subst (λ (k : Circuit). IsTraceOf k run trace) c.loop-run.invariant.circuit c.in_ok-trace.ensures.traced in
    let more : take (i + 1) runs ≡ take i runs ++ run ∷ [] =
    take_more runs i run c.loop-run-test.true ∙ ap (λ (r : Run). take i runs ++ r ∷ []) (sym c.run-item.is) in
    let joined : AllZip (IsTraceOf circuit) (take i runs ++ run ∷ []) (c.loop-run.traces.items ++ trace ∷ []) =
    zips_joined (IsTraceOf circuit) (take i runs) (run ∷ []) c.loop-run.traces.items (trace ∷ [])
    c.loop-run.invariant.traced (is_trace, tt) in
    record {
      circuit = c.in_ok-trace.ensures.circuit ∙ c.loop-run.invariant.circuit;
      traced =
          subst (λ (rs : List Run). AllZip (IsTraceOf circuit) rs c.push.new.self.items) (sym more)
          (subst (λ (ts : List Trace). AllZip (IsTraceOf circuit) (take i runs ++ run ∷ []) ts)
          (sym c.in_ok-push.ensures.items) joined);
    }
