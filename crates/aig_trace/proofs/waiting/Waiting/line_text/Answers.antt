use Rattle.std.proofs.Common.{◌≡◌, ◌∙◌, ◌*◌, ◌<◌, Some, ap, arith, drop, length, take, length-drop, length-take-le}
use Rattle.aig_step.specs.Stimulus.{Entry, entry_in}
use Rattle.aig_trace.proofs.Waits.{step_says}
use Rattle.aig_trace.proofs.waiting.Waiting.line_text.Goals as goal

pub returns-in-Some : goal.returns-in-Some
returns-in-Some c =
    let w = c.args.self.now in
    let step = c.in-Some.step in
    let below : step < w.steps = search (c.in-Some.ensures.below) in
    let rest = drop (step * w.inputs) w.texts.items in
    let text = take w.inputs rest in
    let long : length text ≡ w.inputs =
    length-take-le w.inputs rest
    (omega (arith, w.is.vectors.within step below, length-drop (step * w.inputs) w.texts.items)) in
    ap (entry_in w.inputs) c.text.ensures
    ∙ step_says w.inputs text long (w.is.vectors.good step below)
    ∙ ap (λ (e : Entry). Some e) c.in-Some.ensures.says
