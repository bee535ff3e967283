use Rattle.aig_refute.proofs.Later.{supposes_grown}
use Rattle.aig_refute.proofs.checker.Checker.contradicts.Goals as goal

pub returns-in_err-follow_hints-clause-supposes : goal.returns-in_err-follow_hints-clause-supposes
returns-in_err-follow_hints-clause-supposes c =
    supposes_grown c.args.clause.now _ _ _ c.assume_false.ensures.supposes c.follow_hints.ensures.grows

pub returns-then-branch-2-clause-supposes : goal.returns-then-branch-2-clause-supposes
returns-then-branch-2-clause-supposes c =
    supposes_grown c.args.clause.now _ _ _ c.assume_false.ensures.supposes c.follow_hints.ensures.grows

pub returns-clause-supposes : goal.returns-clause-supposes
returns-clause-supposes c =
    supposes_grown c.args.clause.now _ _ _
    (supposes_grown c.args.clause.now _ _ _ c.assume_false.ensures.supposes c.follow_hints.ensures.grows)
    c.propagate.ensures.grows
