use Rattle.std.proofs.Common.{◌≡◌, ◌+◌, ◌∙◌, arith, suc}
use Rattle.aig_claims.proofs.Starting.{all_reset, next_reset}
use Rattle.aig_claims.proofs.started.reset_by.Goals as goal

pub loop-i-preserved : goal.loop-i-preserved
loop-i-preserved c =
    let i = c.loop-i.i in
    let next : i + 1 ≡ suc i = omega arith in
    rw (c.loop-i.invariant, c.reset_by_character.ensures, next)
    (next_reset c.args.text.now i c.args.latches.now c.index-latches-i.result
    (omega (arith, c.loop-i-test.true, c.min-i-end.ensures)) (omega (arith, c.loop-i-test.true, c.min-i-end.ensures)))

pub returns : goal.returns
returns c =
    c.loop-i.invariant ∙ all_reset c.args.text.now c.loop-i.i c.args.latches.now
    (omega (arith, c.loop-i-test.false, c.min-i-end.ensures))
