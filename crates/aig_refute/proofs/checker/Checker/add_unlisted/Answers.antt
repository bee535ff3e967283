use Rattle.aig_refute.proofs.Gained.{gains_preserved, gains_pushed}
use Rattle.aig_refute.proofs.checker.Checker.add_unlisted.Goals as goal

pub returns-in_ok-attach : goal.returns-in_ok-attach
returns-in_ok-attach c =
    let pushed = c.in_ok-push_clause.ensures in
    gains_preserved c.args.clause.now c.args.self.now _ _
    (gains_pushed c.args.clause.now c.args.self.now _ pushed.agrees pushed.base pushed.stored pushed.pushed)
    c.attach.ensures
