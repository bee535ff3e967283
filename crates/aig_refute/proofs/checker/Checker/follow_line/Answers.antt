use Rattle.std.proofs.Common.{rules, ◌≡◌, ◌∙◌, ⊎_elim, inr, List, ℕ, refl, subst, sym}
use Rattle.aig_refute.specs.Kept.{DoesNotFollow, HaveSameLiterals, IsKept, IsStored}
use Rattle.aig_refute.specs.Lines.{reading_of}
use Rattle.aig_refute.specs.Refuted.{words_of}
use Rattle.aig_refute.proofs.Followed.{does_not_follow}
use Rattle.aig_refute.proofs.checker.Checker.follow_line.Goals as goal

pub returns-in_ok-remove-in-Deleted-clause-changed : goal.returns-in_ok-remove-in-Deleted-clause-changed
returns-in_ok-remove-in-Deleted-clause-changed c = rw c.in-Deleted.is (λ given changes stored. (
  λ h. cc,
  λ clause kept. c.remove.ensures.stored clause (stored clause kept.0)
      (λ same. kept.1 (subst (λ (gone : List ℕ). HaveSameLiterals gone clause) c.clause.ensures same)),
))

pub returns-then-is_right-clause-changed : goal.returns-then-is_right-clause-changed
returns-then-is_right-clause-changed c = rw c.in-Added.is (λ given changes stored. (
  λ h. cc,
  λ clause kept. ⊎_elim
      (λ (same : clause ≡ (reading_of c.args.reader.now).clause).
      subst (IsStored (words_of c.add.new.self)) (sym (same ∙ sym c.clause-in-Added.ensures))
      (c.in_ok-is_right-in-Added.ensures.added c.if-is_right.true))
      (λ (before : IsKept given changes clause).
      c.in_ok-is_right-in-Added.ensures.stored clause (stored clause before))
      kept,
))

pub returns-else-is_right-clause-err : goal.returns-else-is_right-clause-err
returns-else-is_right-clause-err c = rw (c.in-Added.is, c.refused_at-else-is_right.ensures) (λ given changes stored.
    let unfollowed : DoesNotFollow (IsKept given changes) (reading_of c.args.reader.now).clause =
    subst (DoesNotFollow (IsKept given changes)) c.clause-in-Added.ensures
    (does_not_follow (IsKept given changes) (words_of c.add.new.self) c.clause-in-Added.result.now
    (c.in_ok-is_right-in-Added.ensures.rests c.if-is_right.false)
    (λ other kept. c.in_ok-is_right-in-Added.ensures.stored other (stored other kept))) in
    inr (search rules, refl, unfollowed))
