use Rattle.std.proofs.Common.{rules}
use Rattle.aig_dot.proofs.Putting.{put_entry}
use Rattle.aig_dot.proofs.entries.put_gates.Goals as goal

pub loop-gate-preserved : goal.loop-gate-preserved
loop-gate-preserved g c = search (rules, put_entry)
