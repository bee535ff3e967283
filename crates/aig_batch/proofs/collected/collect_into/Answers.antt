use Rattle.std.proofs.Common.{◌++◌, ◌∙◌, true, false, rules, ap, arith, refl}
use Rattle.aig_io.specs.Devices.{failed_once}
use Rattle.aig_io.specs.Runs.{AtEnd, Broken, Open}
use Rattle.aig_io.proofs.Took.{gave_next, took_twice}
use Rattle.aig_lines.proofs.Feeds.{flipped}
use Rattle.aig_lines.proofs.Tells.{at_end}
use Rattle.aig_batch.proofs.Collecting.{first_bad, fold_more, refused}
use Rattle.aig_batch.proofs.collected.collect_into.Goals as goal

pub returns-in_default-clause-err : goal.returns-in_default-clause-err
returns-in_default-clause-err g c =
    let i = c.loop-count.invariant in
    let bytes = c.loop-count.bytes.items in
    record {
      bytes = bytes;
      ending = Broken;
      says = (
        refl,
        first_bad _ c.args.checked.now c.loop-count.feeder c.loop-count.judge bytes false false i.folded i.going,
      );
      came = c.in_default.ensures.history ∙ ap failed_once i.history;
    }

pub returns-then-not-end-clause-err : goal.returns-then-not-end-clause-err
returns-then-not-end-clause-err g c =
    let i = c.loop-count.invariant in
    let bytes = c.loop-count.bytes.items in
    let f = c.end.new.self in
    let end = rw c.if-count-eq0.true at c.in-Ok.ensures.history in
    let bad = first_bad _ c.args.checked.now f c.end.new.taker bytes true true (c.end.ensures.folded _ i.folded)
    (flipped f.refused c.end.result false c.end.ensures.result c.if-not-end.true) in
    rw (c.refused_at.ensures, c.number.ensures) (record {
      bytes = bytes;
      ending = AtEnd;
      says = (_, refl, tt, bad);
      came = end ∙ ap at_end i.history;
    })

pub returns-then-count-eq0-clause-came : goal.returns-then-count-eq0-clause-came
returns-then-count-eq0-clause-came g c =
    let end = rw c.if-count-eq0.true at c.in-Ok.ensures.history in
    end ∙ ap at_end c.loop-count.invariant.history

pub returns-then-count-eq0-clause-good : goal.returns-then-count-eq0-clause-good
returns-then-count-eq0-clause-good g c =
    let i = c.loop-count.invariant in
    let f = c.end.new.self in
    first_bad _ c.args.checked.now f c.end.new.taker c.loop-count.bytes.items true false
    (c.end.ensures.folded _ i.folded)
    (flipped f.refused c.end.result true c.end.ensures.result c.if-not-end.false)

pub returns-in_err-extend_from_slice-clause-err : goal.returns-in_err-extend_from_slice-clause-err
returns-in_err-extend_from_slice-clause-err g c =
    let next = rw (← c.split_at.ensures.front) at (c.in-Ok.ensures.history
    ∙ gave_next _ c.in-Ok.count _ (omega arith)) in
    let bytes = c.loop-count.bytes.items in
    let chunk = c.split_at.result.0.now in
    let some = took_twice _ _ _ bytes chunk c.loop-count.invariant.history next in
    refused c.args.checked.now c.from_residual.result _ _ (search rules)
    (record { bytes = bytes ++ chunk; ending = Open; says = tt; came = some })

pub returns-then-not-feed-clause-err : goal.returns-then-not-feed-clause-err
returns-then-not-feed-clause-err g c =
    let i = c.loop-count.invariant in
    let bytes = c.loop-count.bytes.items in
    let chunk = c.split_at.result.0.now in
    let f = c.feed.new.self in
    let next = rw (← c.split_at.ensures.front) at (c.in-Ok.ensures.history
    ∙ gave_next _ c.in-Ok.count _ (omega arith)) in
    let folded = fold_more _ c.args.checked.now c.loop-count.feeder f c.loop-count.judge c.feed.new.taker bytes chunk
    c.feed.ensures.folded i.folded in
    let bad = first_bad _ c.args.checked.now f c.feed.new.taker (bytes ++ chunk) false true folded
    (flipped f.refused c.feed.result false c.feed.ensures.result c.if-not-feed.true) in
    let some = took_twice _ _ _ bytes chunk i.history next in
    rw (c.refused_at-then-not-feed.ensures, c.number-then-not-feed.ensures)
    (record { bytes = bytes ++ chunk; ending = Open; says = (_, refl, tt, bad); came = some })
