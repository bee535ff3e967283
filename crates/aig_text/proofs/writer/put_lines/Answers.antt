use Rattle.std.proofs.Common.{rules}
use Rattle.aig_io.proofs.Puts.{put_more}
use Rattle.aig_text.proofs.writer.put_lines.Goals as goal

pub loop-item-preserved : goal.loop-item-preserved
loop-item-preserved g c = search (rules, put_more)
