use Rattle.std.proofs.Common.{◌*◌, ◌+◌, ◌∙◌, set, length-set}
use Rattle.aig_lanes.proofs.Side.Eights.{woven_more}
use Rattle.aig_lanes.proofs.transposed.weave.Goals as goal

pub loop-k-preserved : goal.loop-k-preserved
loop-k-preserved c =
    let k = c.loop-k.k in
    let between = c.loop-k.between in
    let low = c.in_turn.result.0 in
    let high = c.in_turn.result.1 in
    record {
      own =
          woven_more k c.args.rows between low high c.loop-k.invariant.size c.loop-k-test.true c.loop-k.invariant.own
          c.in_turn.ensures.first c.in_turn.ensures.second;
      size =
          length-set (set between (2 * k) low) (2 * k + 1) high ∙ length-set between (2 * k) low
          ∙ c.loop-k.invariant.size;
    }
