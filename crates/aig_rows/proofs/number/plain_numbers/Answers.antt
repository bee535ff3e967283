use Rattle.std.proofs.Common.{◌∷◌}
use Rattle.aig_rows.proofs.Canonical.{plain_more, plain_end}
use Rattle.aig_rows.proofs.number.plain_numbers.Goals as goal

pub returns-then-behind-eq10-clause-are : goal.returns-then-behind-eq10-clause-are
returns-then-behind-eq10-clause-are g c =
    plain_end c.args.least g.row.N c.loop-at.at c.loop-at.numbers (c.args.byte ∷ c.args.bytes.now) c.loop-at.rest.now
    c.loop-at.behind c.loop-at-test.true c.if-least-at.true c.if-behind-eq10.true c.loop-at.invariant

pub loop-at-preserved : goal.loop-at-preserved
loop-at-preserved g c =
    plain_more g.row.N c.loop-at.at c.loop-at.numbers (c.args.byte ∷ c.args.bytes.now) c.loop-at.rest.now
    (c.in_ok-number.next ∷ c.in_ok-number.after.now) c.loop-at.behind c.in_ok-number.number c.loop-at-test.true
    c.if-behind-ne32.false c.loop-at.invariant c.in_ok-number.ensures
