use Rattle.std.proofs.Common.{rules, ◌≡◌, ◌∙◌, [], ap, false, fold, List, ℕ, subst, sym}
use Rattle.aig_refute.specs.Kept.{IsKept}
use Rattle.aig_refute.specs.Lines.{missing_end}
use Rattle.aig_refute.specs.Refuted.{ShowsNothing, followed, is_refuted, words_of}
use Rattle.aig_refute.proofs.Followed.{does_not_follow}
use Rattle.aig_refute.proofs.Taken.{wrong_last_piece}
use Rattle.aig_refute.proofs.reading.end_refutation.Goals as goal

pub returns-in_err-follow-clause-err : goal.returns-in_err-follow-clause-err
returns-in_err-follow-clause-err c =
    let wrong = wrong_last_piece c.missing_end.result.now c.args.reader.now c.args.checker.now
    c.in_err-follow.field-0.0 c.missing_end.ensures c.in_err-follow.ensures.err in
    search (rules, wrong)

pub returns-clause-no : goal.returns-clause-no
returns-clause-no c = λ is.
    let still : is_refuted c.follow.new.self ≡ false = sym c.is_refuted.ensures.is ∙ c.if-is_refuted.false in
    let piece : List ℕ = c.missing_end.result.now in (
      c.in_ok-follow.ensures.still still,
      λ given f come.
          let more = c.in_ok-follow.ensures.followed still given f come in
          let nothing : ShowsNothing given f piece = record {
            in_lines = more.0;
            unfollowed = does_not_follow (IsKept given (fold followed f piece).changes)
                (words_of c.follows_after_all.new.self) [] (c.in_ok-follows.ensures.rests is)
                (λ other kept. c.in_ok-follows.ensures.preserves.stored other (more.1.1 other kept));
          } in
          subst (λ (bytes : List ℕ). ShowsNothing given f bytes) (c.missing_end.ensures ∙ ap missing_end come.0)
          nothing,
    )
