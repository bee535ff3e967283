use Rattle.std.proofs.Common.{◌≡◌, List, arith, length, subst, sym, ℕ}
use Rattle.aig_refute.specs.Extended.{AreSpanned}
use Rattle.aig_refute.specs.Kept.{IsStored, Stands}
use Rattle.aig_refute.specs.Store.{IsClause}
use Rattle.aig_refute.proofs.Spans.{all_written}
use Rattle.aig_refute.proofs.store.Store.retire.Goals as goal

pub invariant_of-self : goal.invariant_of-self
invariant_of-self c =
    let self = c.args.self.now in
    let new : List ℕ = c.retire.new.words in
    let len : self.words.len ≡ length new = omega (arith, c.retire.ensures.len, c.deref_mut.ensures.len) in
    let same = all_written new self.words.items self.words.len len in
    record {
      spanned = subst (λ (w : List ℕ). AreSpanned self.base w self.firsts.items self.lasts.items) (sym same)
          (c.retire.ensures.spanned self.firsts.items self.lasts.items
          (subst (λ (w : List ℕ). AreSpanned self.base w self.firsts.items self.lasts.items)
          (sym c.deref_mut.ensures.value) self.spanned));
    }

pub returns-clause-stored : goal.returns-clause-stored
returns-clause-stored c = λ clause stored apart.
    let self = c.args.self.now in
    let new : List ℕ = c.retire.new.words in
    let len : self.words.len ≡ length new = omega (arith, c.retire.ensures.len, c.deref_mut.ensures.len) in
    subst (λ (w : List ℕ). IsStored w clause) (sym (all_written new self.words.items self.words.len len))
    (c.retire.ensures.stored clause
    (subst (λ (w : List ℕ). IsStored w clause) (sym c.deref_mut.ensures.value) stored)
    (subst (λ (w : List ℕ). (e : ℕ) → IsClause w c.args.at e → Stands w clause e → ⊥) (sym c.deref_mut.ensures.value)
    apart))
