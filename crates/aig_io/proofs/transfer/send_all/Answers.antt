use Rattle.std.proofs.Common.{rules}
use Rattle.aig_io.proofs.Took.{took_more}
use Rattle.aig_io.proofs.transfer.send_all.Goals as goal

pub loop-at-preserved : goal.loop-at-preserved
loop-at-preserved g c = search (rules, took_more)
