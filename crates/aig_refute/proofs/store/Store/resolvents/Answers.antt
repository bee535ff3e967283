use Rattle.std.proofs.Common.{◌≡◌, ◌<◌, ◌≤◌, ◌∙◌, Global, List, Vec, ℕ, arith, length, refl, subst, sym, ⊎_elim}
use Rattle.std.specs.Prelude.{All}
use Rattle.std.proofs.lemmas.Bool.{cases_lt}
use Rattle.aig_cnf.specs.Clauses.{HasTrue}
use Rattle.aig_refute.proofs.Spans.{holds_made}
use Rattle.aig_refute.proofs.store.Store.resolvents.Goals as goal
use Rattle.aig_refute.proofs.store.Store.resolvents.Goals.{then-loop-at-test+else-at-len, else-loop-at-test}

pub loop-at-preserved : goal.loop-at-preserved
loop-at-preserved c = λ a none all e low high inside ends.
    let safe = rw c.in-Some-2.is at c.in_ok-end.ensures.safe in
    ⊎_elim
    (λ (l : e < c.loop-at.at). c.loop-at.invariant a none (c.in_ok-end.ensures.old a all) e low l inside ends)
    (λ (g : c.loop-at.at ≤ e). safe a none all e g (omega arith) ends)
    (cases_lt e c.loop-at.at)

pub returns : goal.returns
returns c = λ joined is a none all holds.
    let words : List ℕ = c.args.self.now.words.items in
    let same : c.loop-at.joined ≡ joined = cc in
    let each : All (λ (v : Vec ℕ Global). HasTrue a v.items) c.loop-at.joined.items =
    subst (λ (j : Vec (Vec ℕ Global) Global). All (λ (v : Vec ℕ Global). HasTrue a v.items) j.items) (sym same) all in
    let over : c.loop-at.at ≤ c.in-Some.last → length words ≤ c.loop-at.at = λ le.
    elim c.loop-at-test.branch [ then-loop-at-test+else-at-len w ↦ omega arith | else-loop-at-test w ↦ omega arith ] in
    holds_made a c.args.pivot words c.in-Some.first c.in-Some.last c.loop-at.at
    (λ e k k_lt lt ends free at_k. c.in-Some.ensures c.in-Some.first c.in-Some.last refl e k k_lt lt ends free
    (at_k ∙ sym c.negation.ensures))
    over (λ e low high inside ends. c.loop-at.invariant a none each e low high inside ends) holds
