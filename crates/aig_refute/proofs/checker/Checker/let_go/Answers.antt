use Rattle.aig_refute.proofs.Stored.{same_both, same_literals}
use Rattle.aig_refute.proofs.checker.Checker.let_go.Goals as goal

pub returns-in-Some-clause-stored : goal.returns-in-Some-clause-stored
returns-in-Some-clause-stored c = λ other stored apart.
    c.retire.ensures.stored other stored
    (λ e is stands. apart (same_both _ c.args.clause.now other (c.in-Some.ensures e is)
    (same_literals _ c.in-Some.place e is other stands)))
