use Rattle.std.proofs.Common.{◌≡◌, List, arith, inl, length, subst, sym, ℕ}
use Rattle.aig_refute.specs.Extended.{AreSpanned}
use Rattle.aig_refute.specs.Kept.{IsStored}
use Rattle.aig_refute.proofs.Spans.{all_written}
use Rattle.aig_refute.proofs.Stored.{stored_from}
use Rattle.aig_refute.proofs.store.Store.move_watch.Goals as goal

pub invariant_of-self : goal.invariant_of-self
invariant_of-self c =
    let self = c.args.self.now in
    let new : List ℕ = c.move_watch.new.words in
    let len : self.words.len ≡ length new = omega (arith, c.move_watch.ensures.len, c.deref_mut.ensures.len) in
    let same = all_written new self.words.items self.words.len len in
    record {
      spanned = subst (λ (w : List ℕ). AreSpanned self.base w self.firsts.items self.lasts.items) (sym same)
          (c.move_watch.ensures.spanned self.base self.firsts.items self.lasts.items
          (subst (λ (w : List ℕ). AreSpanned self.base w self.firsts.items self.lasts.items)
          (sym c.deref_mut.ensures.value) self.spanned));
    }

pub returns-clause-stored : goal.returns-clause-stored
returns-clause-stored c = λ clause stored.
    let self = c.args.self.now in
    let new : List ℕ = c.move_watch.new.words in
    let len : self.words.len ≡ length new = omega (arith, c.move_watch.ensures.len, c.deref_mut.ensures.len) in
    subst (λ (w : List ℕ). IsStored w clause) (sym (all_written new self.words.items self.words.len len))
    (stored_from c.deref_mut.result.now new clause
    (λ e stands. inl (e, c.move_watch.ensures.stands clause e stands))
    (subst (λ (w : List ℕ). IsStored w clause) (sym c.deref_mut.ensures.value) stored))
