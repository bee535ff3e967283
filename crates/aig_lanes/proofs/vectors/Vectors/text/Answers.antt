use Rattle.std.proofs.Common.{◌∙◌, ◌*◌, ◌<◌, [], ap, arith, get_or, length, take, length-drop}
use Rattle.aig_lanes.specs.declared.run.Run.{Run}
use Rattle.aig_step.specs.TraceText.{values_text}
use Rattle.aig_lanes.proofs.Side.Sheets.{vector_text, vectors_count}
use Rattle.aig_lanes.proofs.vectors.Vectors.text.Goals as goal

pub overflow_mul-step : goal.overflow_mul-step
overflow_mul-step c =
    let inside = c.self.inside in
    let below : c.args.step < inside.steps =
    omega (arith, c.requires, ap (λ (r : Run). length r.steps) c.self.view_is, vectors_count) in
    omega (arith, c.self.invariant.within c.args.step below)

pub split_at-requires : goal.split_at-requires
split_at-requires c =
    let inside = c.self.inside in
    let below : c.args.step < inside.steps =
    omega (arith, c.requires, ap (λ (r : Run). length r.steps) c.self.view_is, vectors_count) in
    omega (arith, c.self.invariant.within c.args.step below)

pub split_at-requires-2 : goal.split_at-requires-2
split_at-requires-2 c =
    let inside = c.self.inside in
    let below : c.args.step < inside.steps =
    omega (arith, c.requires, ap (λ (r : Run). length r.steps) c.self.view_is, vectors_count) in
    omega (
      arith,
      c.self.invariant.within c.args.step below,
      ap length c.split_at.ensures.back,
      length-drop (c.args.step * inside.stride) inside.lines.now,
    )

pub returns : goal.returns
returns c =
    let inside = c.self.inside in
    let step = c.args.step in
    let below : step < inside.steps =
    omega (arith, c.requires, ap (λ (r : Run). length r.steps) c.self.view_is, vectors_count) in
    c.split_at-2.ensures.front ∙ ap (take inside.inputs) c.split_at.ensures.back
    ∙ vector_text inside.inputs inside.stride inside.steps step inside.lines.now [] c.self.invariant below
    ∙ ap (λ (r : Run). values_text (get_or r.steps step [])) c.self.view_is
