use Rattle.std.proofs.Common.{rules, ◌∙◌, arith}
use Rattle.aig_io.proofs.Took.{gave_next}
use Rattle.aig_refute.proofs.Taken.{has_followed_more, not_refuted, refuted_last, wrong_last, wrong_within}
use Rattle.aig_refute.proofs.reading.read_refutation.Goals as goal

pub loop-count-preserved : goal.loop-count-preserved
loop-count-preserved g c =
    let next = rw (← c.split_at.ensures.front) at (c.in-Ok.ensures.history
    ∙ gave_next _ c.in-Ok.count _ (omega arith)) in
    has_followed_more _ _ _ _ _ _ _ c.loop-count.invariant _ c.split_at.result.0.now next _ _
    c.in_ok-follow.ensures.keeps c.in_ok-follow.ensures.still c.in_ok-follow.ensures.followed

pub returns-in_err-follow : goal.returns-in_err-follow
returns-in_err-follow g c =
    let next = rw (← c.split_at.ensures.front) at (c.in-Ok.ensures.history
    ∙ gave_next _ c.in-Ok.count _ (omega arith)) in
    let wrong = wrong_within _ _ _ _ _ _ _ c.loop-count.invariant _ c.split_at.result.0.now next
    c.in_err-follow.field-0.0 c.in_err-follow.ensures.err in
    search (rules, wrong)

pub returns-in_err-is_refuted : goal.returns-in_err-is_refuted
returns-in_err-is_refuted g c =
    let end = rw c.if-count-eq0.true at c.in-Ok.ensures.history in
    let wrong = wrong_last _ _ _ _ _ _ _ c.loop-count.invariant _ end c.in_err-is_refuted.field-0.0
    c.in_err-is_refuted.ensures.err in
    search (rules, wrong)

pub returns-then-is_refuted : goal.returns-then-is_refuted
returns-then-is_refuted g c =
    let end = rw c.if-count-eq0.true at c.in-Ok.ensures.history in
    let right = refuted_last _ _ _ _ _ _ _ c.loop-count.invariant _ end
    (c.in_ok-is_refuted.ensures.yes c.if-is_refuted.true) in
    search (rules, right)

pub returns-then-count-eq0 : goal.returns-then-count-eq0
returns-then-count-eq0 g c =
    let end = rw c.if-count-eq0.true at c.in-Ok.ensures.history in
    let why = c.in_ok-is_refuted.ensures.no c.if-is_refuted.false in
    let wrong = not_refuted _ _ _ _ _ _ _ c.loop-count.invariant _ end why.0 why.1 in
    let told = c.refused_whole.ensures in
    rw told wrong
