use Rattle.std.proofs.Common.{rules, ◌≡◌, ◌≢◌, ◌<◌, ◌≤◌, ⊎_elim, ℕ, arith, ap, ◌∙◌}
use Rattle.std.specs.Prelude.{slice_index}
use Rattle.std.proofs.lemmas.Bool.{cases_lt, cases_eq}
use Rattle.aig_refute.proofs.Stored.{stored_from}
use Rattle.aig_refute.proofs.store.Store.push_copies.Goals as goal

pub loop-end-preserved : goal.loop-end-preserved
loop-end-preserved c =
    let clause_is = c.in-Some.ensures.some in
    let end : ℕ = c.in-Some.end in
    let inside = clause_is.inside in (
      omega arith,
      λ m is. let same : m ≡ end = omega arith in ap (slice_index c.args.words.now) same ∙ clause_is.ends,
      λ a holds before. c.in_ok-push_copy.ensures.holds a holds (c.loop-end.invariant.2 a holds before),
      c.push_copy.ensures.base ∙ c.loop-end.invariant.3,
      λ clause e lt stands.
          ⊎_elim
          (λ (l : e < c.loop-end.at). c.in_ok-push_copy.ensures.stored clause
          (c.loop-end.invariant.4 clause e l stands))
          (λ (g : c.loop-end.at ≤ e).
          ⊎_elim
          (λ (same : e ≡ end). c.in_ok-push_copy.ensures.copied clause (rw same at stands))
          (λ (other : e ≢ end). absurd (clause_is.literals e g (omega arith) stands.ends))
          (cases_eq e end))
          (cases_lt e c.loop-end.at),
    )

pub returns-clause-stored : goal.returns-clause-stored
returns-clause-stored c = λ clause stored.
    stored_from c.args.words.now c.loop-end.self.words.items clause
    (λ e stands.
    ⊎_elim
    (λ (l : e < c.loop-end.at). c.loop-end.invariant.4 clause e l stands)
    (λ (g : c.loop-end.at ≤ e).
    absurd (c.clause_end.ensures.none (search rules) c.loop-end.invariant.0
    c.loop-end.invariant.1 e g stands.inside stands.ends))
    (cases_lt e c.loop-end.at))
    stored
