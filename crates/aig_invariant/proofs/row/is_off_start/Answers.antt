use Rattle.std.proofs.Common.{◌∙◌, arith, sym}
use Rattle.aig_invariant.proofs.Judging.{off_at_end}
use Rattle.aig_invariant.proofs.row.is_off_start.Goals as goal

pub returns : goal.returns
returns c =
    sym (off_at_end c.loop-i.i c.args.latches.now c.args.row.now
    (omega (arith, c.loop-i-test.false, c.min-i-end.ensures)))
    ∙ c.loop-i.invariant
