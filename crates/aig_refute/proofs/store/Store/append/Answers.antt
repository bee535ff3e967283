use Rattle.std.proofs.Common.{rules, ◌≡◌, ◌+◌, ◌++◌, [], ◌∷◌, List, ℕ, inl, length}
use Rattle.std.specs.Result.{is_ok}
use Rattle.aig_refute.specs.declared.words.TheConstants.{END}
use Rattle.aig_refute.proofs.Changes.{holds_appended}
use Rattle.aig_refute.proofs.Spans.{spanned_maybe, spanned_open, spanned_push}
use Rattle.aig_refute.proofs.Stored.{stands_before, stands_last, stored_from}
use Rattle.aig_refute.proofs.store.Store.append.Goals as goal

pub invariant_of-self-2 : goal.invariant_of-self-2
invariant_of-self-2 c =
    let self = c.args.self.now in
    let words : List ℕ = self.words.items in
    let clause : List ℕ = c.args.clause.now in
    let torn : c.extend_from_slice.new.self.items ≡ words ++ clause = search rules in
    record {
      spanned = spanned_maybe (is_ok c.push.result) self.base words clause c.extend_from_slice.new.self.items
          c.push.new.self.items self.firsts.items self.lasts.items torn c.push.ensures.items
          (spanned_open self.base words clause self.firsts.items self.lasts.items c.requires.literals self.spanned)
          (spanned_push self.base words clause self.firsts.items self.lasts.items c.requires.literals c.requires.start
          c.requires.noted self.spanned);
    }

pub returns-clause-holds : goal.returns-clause-holds
returns-clause-holds c = λ a holds has.
    let is : c.push.new.self.items ≡ (c.args.self.now.words.items ++ c.args.clause.now) ++ END ∷ [] = search rules in
    holds_appended a c.args.self.now.words.items c.args.clause.now c.push.new.self.items holds has
    c.requires.literals is

pub returns-clause-stored : goal.returns-clause-stored
returns-clause-stored c = λ other stored.
    let words : List ℕ = c.args.self.now.words.items in
    let is : c.push.new.self.items ≡ (words ++ c.args.clause.now) ++ END ∷ [] = search rules in
    stored_from words c.push.new.self.items other
    (λ e stands. inl (
      e,
      stands_before words c.args.clause.now c.push.new.self.items
          c.requires.literals is other e stands,
    ))
    stored

pub returns-clause-pushed : goal.returns-clause-pushed
returns-clause-pushed c =
    let words : List ℕ = c.args.self.now.words.items in
    let is : c.push.new.self.items ≡ (words ++ c.args.clause.now) ++ END ∷ [] = search rules in
    inl (
      length words + length c.args.clause.now,
      stands_last words c.args.clause.now c.push.new.self.items c.requires.literals is c.requires.start,
    )
