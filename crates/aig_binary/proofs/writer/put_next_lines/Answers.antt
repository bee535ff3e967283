use Rattle.std.proofs.Common.{rules}
use Rattle.aig_io.proofs.Puts.{put_more}
use Rattle.aig_binary.proofs.writer.put_next_lines.Goals as goal

pub loop-latch-preserved : goal.loop-latch-preserved
loop-latch-preserved g c = search (rules, put_more)
