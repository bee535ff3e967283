use Rattle.std.proofs.Common.{◌≡◌, ◌<◌, ◌≤◌, ◌∙◌, ◌++◌, [], ◌∷◌, List, ap, ap₂, arith, get_or, length, map, subst, sym}
use Rattle.std.proofs.lemmas.List.{get_or_default, map-append, take_all, take_more}
use Rattle.aig_meaning.specs.Meaning.{Row}
use Rattle.aig_meaning.specs.Trace.{IsTrace, reset_state}
use Rattle.aig_circuit.specs.declared.value.Val.{Val}
use Rattle.aig_lanes.specs.Parts.LaneTexts.{RowStands}
use Rattle.aig_lanes.specs.Parts.Sheets.{text_in}
use Rattle.aig_lanes.specs.Runs.{row_of}
use Rattle.aig_lanes.proofs.Benches.ShownTexts.{no_row}
use Rattle.aig_runs.proofs.traces.take_trace.Goals as goal

pub loop-step-preserved : goal.loop-step-preserved
loop-step-preserved c = record {
  rows = λ circuit (rows, keeps).
      let step = c.loop-step.step in
      let run = c.args.run.now in
      let text = text_in c.args.lane c.args.sheet.now in
      let shown = c.args.shown.now in
      let steps : c.as_slice-steps.result.now ≡ run.steps = c.as_slice-steps.ensures in
      let below : step < length rows =
      omega (arith, c.loop-step-test.true, ap length steps, keeps.count) in
      let given : get_or run.steps step [] ≡ c.index-steps-step.result =
      sym (c.index-steps-step.is ∙ get_or_default _ step _ [] c.loop-step-test.true
      ∙ ap (λ (vs : List (List Val)). get_or vs step []) steps) in
      let row = get_or rows step no_row in
      ap (map row_of) c.in_ok-push.ensures.ok
      ∙ map-append row_of c.loop-step.rows (c.in_ok-row.row ∷ [])
      ∙ ap₂ (λ (rs : List Row) r. rs ++ r ∷ []) (c.loop-step.invariant.rows circuit (rows, keeps))
      (c.in_ok-row.ensures row (subst (λ (g : List Val). RowStands shown step g text row) given
      (keeps.each step no_row below)) c.requires.asks)
      ∙ sym (take_more rows step no_row below);
  line = c.row.auto.line ∙ c.loop-step.invariant.line;
}

pub returns : goal.returns
returns c = λ circuit (rows, keeps).
    let run = c.args.run.now in
    let steps : c.as_slice-steps.result.now ≡ run.steps = c.as_slice-steps.ensures in
    let end : length rows ≤ c.loop-step.step =
    omega (arith, c.loop-step-test.false, ap length steps, keeps.count) in
    subst (λ (rs : List Row). IsTrace circuit (reset_state circuit) run.steps rs)
    (sym (c.loop-step.invariant.rows circuit (rows, keeps) ∙ take_all c.loop-step.step rows end)) keeps.traced
