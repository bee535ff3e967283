use Rattle.std.proofs.Common.{inr}
use Rattle.aig_refute.proofs.Changes.{clause_true}
use Rattle.aig_refute.proofs.Stored.{same_literals, stored_alike}
use Rattle.aig_refute.proofs.store.Store.push_copy.Goals as goal

pub returns-then-is_gone-clause-copied : goal.returns-then-is_gone-clause-copied
returns-then-is_gone-clause-copied c = λ clause stands.
    inr (c.is_gone.ensures c.if-is_gone.true c.requires clause stands)

pub returns-clause-holds : goal.returns-clause-holds
returns-clause-holds c = λ a holds before.
    c.in_ok-push.ensures.holds a before (clause_true a c.args.words.now c.args.at c.args.end holds c.requires)

pub returns-clause-copied : goal.returns-clause-copied
returns-clause-copied c = λ clause stands.
    stored_alike _ _ clause (same_literals c.args.words.now c.args.at c.args.end c.requires clause stands)
    c.in_ok-push.ensures.pushed
