use Rattle.aig_refute.proofs.checker.Checker.remove.Goals as goal

pub returns-in_err-compact-clause-stored : goal.returns-in_err-compact-clause-stored
returns-in_err-compact-clause-stored c = λ other stored apart.
    c.compact.ensures.stored other (c.let_go.ensures.stored other stored apart)

pub returns-in_ok-compact-clause-stored : goal.returns-in_ok-compact-clause-stored
returns-in_ok-compact-clause-stored c = λ other stored apart.
    c.compact.ensures.stored other (c.let_go.ensures.stored other stored apart)
