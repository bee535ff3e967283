use Rattle.std.proofs.Common.{◌≡◌, ◌+◌, ◌≤◌, length, false}
use Rattle.aig_lines.specs.Feeders.{HasFoldedBytes}
use Rattle.aig_lines.specs.Feeding.{Feeding, fold_bytes}
use Rattle.aig_lines.proofs.Feeds.{IsOnItsWay}
use Rattle.aig_lines.proofs.feeder.LineFeeder.feed.Given as goal

abbrev pub invariant-loop-at : goal.invariant-loop-at
invariant-loop-at g l =
    let t = g.T.LineTaker in
    record {
      taken : t.counted l.taker ≤ l.self.number;
      counted : l.self.number + length l.rest ≤ l.fn.self.number + length l.chunk;
      going : l.self.refused ≡ false;
      way : (at : Feeding t.State) → HasFoldedBytes t.IsAt l.fn.self l.fn.taker at
          → IsOnItsWay t.step t.IsAt l.self l.taker l.rest (fold_bytes t.step at l.chunk);
    }

abbrev pub decreases-loop-at : goal.decreases-loop-at
decreases-loop-at g l = length l.rest
