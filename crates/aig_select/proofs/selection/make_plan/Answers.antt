use Rattle.std.proofs.Common.{ℕ, Bool}
use Rattle.std.specs.FinSet as set
use Rattle.aig_select.proofs.Assembled.{put_is}
use Rattle.aig_select.proofs.selection.make_plan.Goals as goal

pub returns : goal.returns
returns c =
    let keeps : ℕ → Bool = set.contains c.args.variables.now in
    let marks = c.in_ok-marks.marks in
    put_is c.args.choice.now keeps c.args.circuit.now c.args.shown marks.inputs.items marks.latches.items
    marks.gates.items c.in_ok-symbols.symbols c.requires.shown c.in_ok-marks.ensures.inputs c.in_ok-marks.ensures.latches
    c.in_ok-marks.ensures.gates
    (c.in_ok-symbols.ensures keeps c.in_ok-marks.ensures.inputs c.in_ok-marks.ensures.latches)
