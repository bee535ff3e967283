use Rattle.std.proofs.Common.{List, ℕ, subst, sym}
use Rattle.aig_refute.specs.Kept.{IsStored}
use Rattle.aig_refute.proofs.store.Store.compact.Goals as goal

pub returns-clause-stored : goal.returns-clause-stored
returns-clause-stored c = λ clause stored.
    c.in_ok-places.ensures.stored clause
    (subst (λ (w : List ℕ). IsStored w clause) (sym c.deref.ensures.value) stored)
