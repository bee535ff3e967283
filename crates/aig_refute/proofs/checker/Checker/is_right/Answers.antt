use Rattle.aig_refute.proofs.Gained.{preserves_both}
use Rattle.aig_refute.proofs.Kept.{can_extend_alone}
use Rattle.aig_refute.proofs.checker.Checker.is_right.Goals as goal

pub returns-then-follows-clause-extends : goal.returns-then-follows-clause-extends
returns-then-follows-clause-extends c = λ is a admits.
    can_extend_alone c.args.clause.now c.follows.new.self a (c.in_ok-follows.ensures.preserves.admits a admits)
    (c.in_ok-follows.ensures.follows c.if-follows.true a admits)

pub returns-then-extends-clause-preserves : goal.returns-then-extends-clause-preserves
returns-then-extends-clause-preserves c =
    preserves_both _ _ _ c.in_ok-follows.ensures.preserves c.in_ok-extends.ensures.preserves

pub returns-then-extends-clause-extends : goal.returns-then-extends-clause-extends
returns-then-extends-clause-extends c = λ is a admits.
    c.in_ok-extends.ensures.extends c.if-extends.true a (c.in_ok-follows.ensures.preserves.admits a admits)

pub returns-clause-preserves : goal.returns-clause-preserves
returns-clause-preserves c =
    preserves_both _ _ _ (preserves_both _ _ _ c.in_ok-follows.ensures.preserves c.in_ok-extends.ensures.preserves)
    c.in_ok-follows-2.ensures.preserves
