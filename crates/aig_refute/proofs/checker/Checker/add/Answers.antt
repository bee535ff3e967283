use Rattle.aig_refute.proofs.checker.Checker.add.Goals as goal

pub returns-in_ok-add_given-clause-stored : goal.returns-in_ok-add_given-clause-stored
returns-in_ok-add_given-clause-stored c = λ other stored.
    c.in_ok-add_given.ensures.stored other
    (c.in_ok-is_right.ensures.preserves.stored other (c.in_ok-make_room.ensures.stored other stored))

pub returns-else-is_right-clause-stored : goal.returns-else-is_right-clause-stored
returns-else-is_right-clause-stored c = λ other stored.
    c.in_ok-is_right.ensures.preserves.stored other (c.in_ok-make_room.ensures.stored other stored)
