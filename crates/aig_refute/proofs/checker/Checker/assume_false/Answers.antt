use Rattle.std.proofs.Common.{◌∙◌, ap, arith}
use Rattle.aig_cnf.specs.Clauses.{is_true}
use Rattle.aig_refute.proofs.Later.{supposes_one}
use Rattle.aig_refute.proofs.checker.Checker.assume_false.Goals as goal

pub returns-in_err-assign-clause-supposes : goal.returns-in_err-assign-clause-supposes
returns-in_err-assign-clause-supposes c =
    supposes_one c.args.clause.now _ _ _ c.loop-k.k c.loop-k.invariant (omega arith)
    (λ a agrees is. c.assign.ensures.agrees a agrees (ap (is_true a) c.negation.ensures ∙ is)) c.assign.ensures.store
    c.assign.ensures.refuted c.assign.ensures.extends

pub loop-k-preserved : goal.loop-k-preserved
loop-k-preserved c =
    supposes_one c.args.clause.now _ _ _ c.loop-k.k c.loop-k.invariant (omega arith)
    (λ a agrees is. c.assign.ensures.agrees a agrees (ap (is_true a) c.negation.ensures ∙ is)) c.assign.ensures.store
    c.assign.ensures.refuted c.assign.ensures.extends
