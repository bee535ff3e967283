use Rattle.std.proofs.Common.{◌≡◌, ◌∙◌, ◌<◌, ℕ, List, arith, codes, length, subst, sym}
use Rattle.aig_trace.specs.Taken.{IsRowText, Took}
use Rattle.aig_trace.proofs.Taken.{took_twice}
use Rattle.aig_lanes.specs.Parts.LaneTexts.{kept_text, shown_text}
use Rattle.aig_lanes.specs.Parts.Sheets.{text_in}
use Rattle.aig_batch.proofs.Side.Fronts.{one_behind}
use Rattle.aig_batch.proofs.text_group.put_run.Goals as goal

pub take_row-requires-clause-row : goal.take_row-requires-clause-row
take_row-requires-clause-row g c =
    let below : c.loop-step.step < length c.args.run.now.steps =
    omega (arith, c.loop-step-test.true, c.len-step-end.ensures) in
    subst (λ (given : List ℕ). IsRowText (shown_text c.args.shown.now c.loop-step.step given
    (text_in c.args.lane c.args.sheet.now))) (sym c.text.ensures) (c.requires.rows c.loop-step.step below)

pub loop-step-preserved : goal.loop-step-preserved
loop-step-preserved g c =
    let run = c.args.run.now in
    let text = text_in c.args.lane c.args.sheet.now in
    let shown = c.args.shown.now in
    let step = c.loop-step.step in
    let now = c.take_row.new.self in
    record {
      put =
          subst (λ (n : ℕ). Took g.T.RowTaker.took c.args.output.now now (kept_text shown run n text)) (one_behind step)
          (took_twice c.args.output.now c.loop-step.output now (kept_text shown run step text) _
          c.loop-step.invariant.put
          (subst (λ (given : List ℕ). Took g.T.RowTaker.took c.loop-step.output now (shown_text shown step given text))
          c.text.ensures c.take_row.ensures.took));
      line = c.take_row.auto.room ∙ c.loop-step.invariant.line;
    }

pub returns : goal.returns
returns g c =
    let end : c.loop-step.step ≡ length c.args.run.now.steps =
    omega (arith, c.loop-step-test.false, c.loop-step.auto.step-end, c.len-step-end.ensures) in
    took_twice c.args.output.now c.loop-step.output c.take_stop.new.self _ (codes ".\n")
    (subst
    (λ (n : ℕ). Took g.T.RowTaker.took c.args.output.now c.loop-step.output
    (kept_text c.args.shown.now c.args.run.now n (text_in c.args.lane c.args.sheet.now)))
    end c.loop-step.invariant.put)
    c.take_stop.ensures
