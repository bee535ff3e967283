use Rattle.std.proofs.Common.{rules}
use Rattle.aig_io.proofs.Puts.{put_next}
use Rattle.aig_io.proofs.output.Output.send_blocks.Goals as goal

pub loop-at-preserved : goal.loop-at-preserved
loop-at-preserved g c = record {
  within = search rules;
  left = search rules;
  whole = search rules;
  put = put_next _ _ _ _ _ _ c.loop-at.invariant.put
      (rw c.split_at.ensures.back at rw c.split_at-in-loop-at.ensures.front at c.send_straight.ensures.put);
  empty = search rules;
}
