use Rattle.std.proofs.Common.{◌≡◌, ◌++◌, ◌∷◌, ◌∙◌, ℕ, List, [], ap, append-nil, arith, codes, get_or, length, subst}
use Rattle.std.proofs.Common.{sym}
use Rattle.std.proofs.lemmas.List.{get_or_default}
use Rattle.std.proofs.lemmas.List.Concat.{flat_map-append}
use Rattle.aig_trace.specs.Taken.{Took}
use Rattle.aig_trace.proofs.Taken.{took_twice}
use Rattle.aig_lanes.specs.declared.run.Run.{Run}
use Rattle.aig_lanes.specs.Parts.LaneTexts.{kept_text}
use Rattle.aig_lanes.specs.Parts.Sheets.{text_in}
use Rattle.aig_batch.specs.Parts.RunsRead.{kept_texts, no_run, text_of_group}
use Rattle.aig_batch.proofs.Side.Fronts.{one_behind}
use Rattle.aig_batch.proofs.text_group.put_runs.Goals as goal

pub loop-lane-preserved : goal.loop-lane-preserved
loop-lane-preserved g c =
    let H = g.T.RowTaker.took in
    let runs = c.args.runs.now in
    let shown = c.args.shown.now in
    let sheet = c.args.sheet.now in
    let lane = c.loop-lane.lane in
    let now = c.put_run.new.output in
    let first = kept_texts shown runs lane sheet in
    let kept = λ (run : Run). kept_text shown run (length run.steps) (text_in lane sheet) in
    let is_run = c.index-runs-lane.is ∙ get_or_default runs lane _ no_run c.loop-lane-test.true in
    let whole : text_of_group (first ++ kept (get_or runs lane no_run) ∷ [])
    ≡ text_of_group first ++ (kept (get_or runs lane no_run) ++ codes ".\n") =
    flat_map-append (λ (t : List ℕ). t ++ codes ".\n") first (kept (get_or runs lane no_run) ∷ [])
    ∙ ap (λ (t : List ℕ). text_of_group first ++ t) (append-nil (kept (get_or runs lane no_run) ++ codes ".\n")) in
    record {
      put =
          subst (λ (n : ℕ). Took H c.args.output.now now (text_of_group (kept_texts shown runs n sheet)))
          (one_behind lane)
          (subst (λ (t : List ℕ). Took H c.args.output.now now t) (sym whole)
          (took_twice c.args.output.now c.loop-lane.output now (text_of_group first) _ c.loop-lane.invariant.put
          (subst (λ (run : Run). Took H c.loop-lane.output now (kept run ++ codes ".\n")) is_run c.put_run.ensures)));
      line = c.put_run.auto.line ∙ c.loop-lane.invariant.line;
    }

pub returns : goal.returns
returns g c =
    let end : c.loop-lane.lane ≡ length c.args.runs.now =
    omega (arith, c.loop-lane-test.false, c.loop-lane.auto.lane-end) in
    subst
    (λ (n : ℕ). Took g.T.RowTaker.took c.args.output.now c.loop-lane.output
    (text_of_group (kept_texts c.args.shown.now c.args.runs.now n c.args.sheet.now)))
    end c.loop-lane.invariant.put
