use Rattle.aig_batch.proofs.Side.RunsRead.{step_ends}
use Rattle.aig_batch.proofs.runs_read.first_end.Goals as goal

pub returns-then-bytes-ne46 : goal.returns-then-bytes-ne46
returns-then-bytes-ne46 c =
    step_ends c.args.inputs c.args.bytes.now c.requires c.if-inputs-bytes.true c.if-bytes-inputs-eq10.true
    c.if-bytes-ne46.true
