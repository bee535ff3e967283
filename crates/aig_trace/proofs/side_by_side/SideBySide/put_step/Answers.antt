use Rattle.std.proofs.Common.{◌≡◌, ◌∙◌, ◌∷◌, [], arith, get_or, subst, ap}
use Rattle.aig_lanes.specs.Parts.InputBits.{one_step}
use Rattle.aig_lanes.proofs.Side.Sheets.{vector_at, vector_text}
use Rattle.aig_step.specs.Stimulus.{Entry, Step}
use Rattle.aig_step.specs.TraceText.{values_text}
use Rattle.aig_trace.specs.Parts.Tracing.{Did}
use Rattle.aig_trace.specs.Parts.Waits.{vectors_of}
use Rattle.aig_trace.proofs.Shows.{did_step, kept_row}
use Rattle.aig_trace.proofs.side_by_side.SideBySide.put_step.Goals as goal

pub take_row-requires-clause-row : goal.take_row-requires-clause-row
take_row-requires-clause-row g c =
    let a = c.args.self.now in
    let w = a.waiting in
    let step = c.args.step in
    let vector = get_or (vectors_of w) step [] in
    let given : c.text.result.now ≡ values_text vector =
    c.text.ensures ∙ vector_text w.inputs w.inputs w.steps step w.texts.items [] w.is.vectors c.requires.step in
    rw given
    (kept_row a.tracer.circuit (one_step vector) step a.bench.shown a.bench.sheet
    (c.requires.shows step c.requires.step) 0 (omega arith))

pub returns-clause-did : goal.returns-clause-did
returns-clause-did g c =
    let a = c.args.self.now in
    let w = a.waiting in
    let step = c.args.step in
    let vector = get_or (vectors_of w) step [] in
    let given : c.text.result.now ≡ values_text vector =
    c.text.ensures ∙ vector_text w.inputs w.inputs w.steps step w.texts.items [] w.is.vectors c.requires.step in
    subst
    (λ (e : Entry). Did g.T.RowTaker.took a.tracer c.note_step.new.self (e ∷ []) c.args.output.now c.take_row.new.self)
    (ap Step (vector_at w.inputs w.inputs w.steps step w.texts.items [] c.requires.step))
    (did_step a.tracer c.note_step.new.self c.args.output.now c.take_row.new.self vector a.bench.shown a.bench.sheet
    step a.serves.stateless c.note_step.ensures.each_latch c.note_step.ensures.noted a.serves.columns_are
    (c.requires.shows step c.requires.step) (rw (← given) c.take_row.ensures.took))
