use Rattle.std.proofs.Common.{rules}
use Rattle.aig_binary.proofs.Files.{pieces_put}
use Rattle.aig_binary.proofs.writer.put_gates.Goals as goal

pub loop-at-preserved : goal.loop-at-preserved
loop-at-preserved g c = record {
  within = search rules;
  put = pieces_put _ _ _ c.args.gates.now c.loop-at.at c.min-count.result _ c.loop-at.invariant.put
      (search rules) c.put.ensures.put;
}
