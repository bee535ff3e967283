use Rattle.std.proofs.Common.{◌∙◌, true, false, ap, arith}
use Rattle.aig_io.specs.Devices.{failed_once}
use Rattle.aig_lines.proofs.Feeds.{flipped}
use Rattle.aig_lines.proofs.Tells.{folded_end, folded_source_lines, reached_more}
use Rattle.aig_lines.proofs.source.feed_source.Goals as goal

pub returns-in_default : goal.returns-in_default
returns-in_default g c = λ s at.
    let t = g.T.LineTaker in
    let r = c.loop-count.invariant.reached s at in
    folded_source_lines t.step t.IsAt _ s _ _ _ _ _ _ _ _ false false r (c.in_default.ensures.history
    ∙ ap failed_once r.history)
    c.loop-count.invariant.going (λ place stands. stands)

pub returns-then-count-eq0 : goal.returns-then-count-eq0
returns-then-count-eq0 g c = λ s at.
    let t = g.T.LineTaker in
    let gave = rw c.if-count-eq0.true at c.in-Ok.ensures.history in
    folded_end t.step t.IsAt _ s _ _ _ _ _ _ _ c.end.result (c.loop-count.invariant.reached s at) gave
    c.end.ensures.result c.end.ensures.folded

pub returns-then-not-feed : goal.returns-then-not-feed
returns-then-not-feed g c = λ s at.
    let t = g.T.LineTaker in
    let r = reached_more t.step t.IsAt _ s _ _ _ _ _ _ _ _ _ _ (c.loop-count.invariant.reached s at)
    c.in-Ok.ensures.history (omega arith) c.split_at.ensures.front c.feed.ensures.folded in (
      false,
      folded_source_lines t.step t.IsAt _ s _ _ _ _ _ _ _ _ false true r r.history
          (flipped c.feed.new.self.refused c.feed.result false c.feed.ensures.result c.if-not-feed.true)
          (λ place stands. stands),
    )
