use Rattle.std.proofs.Common.{◌≡◌, ◌+◌, ◌^◌, ◌≤◌, false}
use Rattle.aig_lines.proofs.Tells.{Reached}
use Rattle.aig_lines.proofs.source.feed_source.Given as goal

abbrev pub invariant-loop-count : goal.invariant-loop-count
invariant-loop-count g l =
    let r = g.R.Source in
    let t = g.T.LineTaker in
    record {
      reached : (s : t.State) → t.IsAt l.fn.taker s
          → Reached t.step t.IsAt l.fn.feeder.limit s (r.history l.fn.source) (r.history l.source) l.feeder l.taker;
      counted : t.counted l.taker ≤ l.feeder.number;
      going : l.feeder.refused ≡ false;
      number : r.bound l.source ≤ 2 ^ 62 → l.feeder.number + r.bound l.source ≤ 2 ^ 62 + 1;
      failures : (r.history l.source).failures ≡ (r.history l.fn.source).failures;
    }

abbrev pub decreases-loop-count : goal.decreases-loop-count
decreases-loop-count g l = g.R.Source.bound l.source
