use Rattle.aig_refute.proofs.Later.{supposes_grown}
use Rattle.aig_refute.proofs.checker.Checker.contradicts_after_all.Goals as goal

pub returns-clause-supposes : goal.returns-clause-supposes
returns-clause-supposes c =
    supposes_grown c.args.clause.now _ _ _ c.assume_false.ensures.supposes c.exhaust.ensures.grows
