use Rattle.std.proofs.Common.{rules, ◌≡◌, ◌++◌, [], ◌∷◌, Global, List, Some, Vec, ℕ, subst}
use Rattle.std.specs.Prelude.{slice_range}
use Rattle.std.proofs.lemmas.List.Elements.{All-pop}
use Rattle.aig_cnf.specs.Clauses.{HasTrue}
use Rattle.aig_refute.specs.Extended.{made_true}
use Rattle.aig_refute.specs.Store.{IsClause}
use Rattle.aig_refute.proofs.Spans.{safe_clause, safe_within, true_before}
use Rattle.aig_refute.proofs.store.Store.join.Goals as goal

pub returns-then-not-contains-clause-safe : goal.returns-then-not-contains-clause-safe
returns-then-not-contains-clause-safe c = λ a none all e low high ends.
    let words : List ℕ = c.args.self.now.words.items in
    let is : IsClause words c.args.at c.in-Some.end =
    subst (λ (w : List ℕ). IsClause w c.args.at c.in-Some.end) c.deref.ensures.value c.in-Some.ensures.some in
    let apart = rw (c.deref-2.ensures.value, c.negation.ensures) at (c.contains.ensures c.if-not-contains.true) in
    safe_within a c.args.pivot words c.args.at c.in-Some.end is
    (safe_clause a c.args.pivot words c.args.at c.in-Some.end is apart) e low high ends

pub returns-clause-old : goal.returns-clause-old
returns-clause-old c = λ a all.
    let is : c.push.new.self.items ≡ c.args.joined.now.items ++ c.in_ok-resolvent.field-0 ∷ [] = search rules in
    (All-pop (λ (v : Vec ℕ Global). HasTrue a v.items) c.push.new.self.items c.args.joined.now.items
    (Some c.in_ok-resolvent.field-0) is all).0

pub returns-clause-safe : goal.returns-clause-safe
returns-clause-safe c = λ a none all e low high ends.
    let words : List ℕ = c.args.self.now.words.items in
    let is : IsClause words c.args.at c.in-Some.end =
    subst (λ (w : List ℕ). IsClause w c.args.at c.in-Some.end) c.deref.ensures.value c.in-Some.ensures.some in
    let items : c.push.new.self.items ≡ c.args.joined.now.items ++ c.in_ok-resolvent.field-0 ∷ [] = search rules in
    let last : HasTrue a c.in_ok-resolvent.field-0.items =
    (All-pop (λ (v : Vec ℕ Global). HasTrue a v.items) c.push.new.self.items c.args.joined.now.items
    (Some c.in_ok-resolvent.field-0) items all).1 in
    let has : HasTrue (made_true c.args.pivot a) (slice_range words c.args.at c.in-Some.end) =
    rw c.deref-2.ensures.value at (c.in_ok-resolvent.ensures a last none) in
    safe_within a c.args.pivot words c.args.at c.in-Some.end is
    (λ _. true_before (made_true c.args.pivot a) words c.args.at c.in-Some.end is has) e low high ends
