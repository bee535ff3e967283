use Rattle.std.proofs.Common.{◌≡◌, ◌∙◌, None, ap, arith, get_or, sym}
use Rattle.std.proofs.lemmas.List.{get_or_default}
use Rattle.aig_trace.specs.Parts.Waits.{entry_at}
use Rattle.aig_trace.proofs.Waits.{entry_read}
use Rattle.aig_trace.proofs.waiting.Waiting.step_of.Goals as goal

pub returns-clause-says : goal.returns-clause-says
returns-clause-says c =
    let w = c.args.self.now in
    let read : c.index.result.now ≡ get_or w.lines.items c.args.line None =
    c.index.ensures
    ∙ get_or_default w.lines.items c.args.line c.index.result.now None
    (omega (arith, c.requires, w.is.few_lines, w.is.lines_room)) in
    ap (entry_at w.inputs w.texts.items) read
    ∙ entry_read w.inputs w.texts.items w.lines.items w.count c.args.line c.requires
    (omega (arith, w.is.few_lines, w.is.lines_room))

pub returns-clause-below : goal.returns-clause-below
returns-clause-below c = λ step said.
    let w = c.args.self.now in
    let read : c.index.result.now ≡ get_or w.lines.items c.args.line None =
    c.index.ensures
    ∙ get_or_default w.lines.items c.args.line c.index.result.now None
    (omega (arith, c.requires, w.is.few_lines, w.is.lines_room)) in
    w.is.below c.args.line step c.requires (sym read ∙ said)
