use Rattle.std.proofs.Common.{append-nil, append_assoc, arith}
use Rattle.std.proofs.lemmas.Grind.{common_steps}
use Rattle.aig_invariant.proofs.Growing.Cubes.{asked_at_end, asked_next_on}
use Rattle.aig_invariant.proofs.growth.put_asked.Goals as goal

pub loop-i-preserved : goal.loop-i-preserved
loop-i-preserved c =
    let on =
    asked_next_on c.loop-i.i c.args.row.now c.args.literals.now
    (omega (arith, c.loop-i-test.true, c.min-i-end.ensures)) (omega (arith, c.loop-i-test.true, c.min-i-end.ensures)) in
    grind (arith, common_steps, on, append_assoc)

pub returns : goal.returns
returns c =
    let none =
    asked_at_end c.loop-i.i c.args.row.now c.args.literals.now
    (omega (arith, c.loop-i-test.false, c.min-i-end.ensures)) in
    grind (arith, common_steps, none, append-nil)
