use Rattle.std.proofs.Common.{◌∙◌, arith}
use Rattle.aig_select.proofs.Positions.{all_marked}
use Rattle.aig_select.proofs.choice.mark_positions.Goals as goal

pub returns-clause-marks : goal.returns-clause-marks
returns-clause-marks c =
    c.from_vec.ensures
    ∙ all_marked c.args.count c.args.positions.now c.loop-position.marks.items c.loop-position.position-index
    c.loop-position.invariant.long (omega arith) c.loop-position.invariant.marked
