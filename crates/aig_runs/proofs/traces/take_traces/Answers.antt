use Rattle.std.proofs.Common.{◌≡◌, ◌+◌, ◌∙◌, ◌++◌, [], ◌∷◌, List, ap, subst, sym, take}
use Rattle.std.specs.List.{AllZip}
use Rattle.std.proofs.lemmas.List.{take_more}
use Rattle.aig_rows.proofs.Grammar.Entries.{zips_joined}
use Rattle.aig_lanes.specs.declared.run.Run.{Run}
use Rattle.aig_lanes.specs.declared.run.Trace.{Trace}
use Rattle.aig_lanes.specs.Parts.LaneTexts.{KeepsRun}
use Rattle.aig_lanes.specs.Runs.{IsTraceOf}
use Rattle.aig_runs.proofs.traces.take_traces.Goals as goal

pub loop-lane-preserved : goal.loop-lane-preserved
loop-lane-preserved c = record {
  traced = λ circuit each.
      let runs = c.args.runs.now in
      let lane = c.loop-lane.lane in
      let run = c.index-runs-lane.result in
      let trace = c.in_ok-trace.trace in
      let keeps = subst (λ (r : Run). KeepsRun circuit r lane c.args.shown.now c.args.sheet.now)
      (sym c.index-runs-lane.is) (each lane run c.loop-lane-test.true) in
      let more : take (lane + 1) runs ≡ take lane runs ++ run ∷ [] =
      take_more runs lane run c.loop-lane-test.true
      ∙ ap (λ (r : Run). take lane runs ++ r ∷ []) (sym c.index-runs-lane.is) in
      subst (λ (rs : List Run). AllZip (IsTraceOf circuit) rs c.push.new.self.items) (sym more)
      (subst (λ (ts : List Trace). AllZip (IsTraceOf circuit) (take lane runs ++ run ∷ []) ts)
      (sym c.in_ok-push.ensures.items)
      (zips_joined (IsTraceOf circuit) (take lane runs) (run ∷ []) c.loop-lane.traces.items (trace ∷ [])
      (c.loop-lane.invariant.traced circuit each) (c.in_ok-trace.ensures circuit keeps, tt)));
  line = c.take_trace.auto.line ∙ c.loop-lane.invariant.line;
}
