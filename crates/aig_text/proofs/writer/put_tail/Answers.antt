use Rattle.aig_io.proofs.Puts.{put_twice}
use Rattle.aig_text.proofs.writer.put_tail.Goals as goal

pub returns : goal.returns
returns g c = put_twice _ _ _ _ _ c.put_symbols.ensures c.put_comment.ensures
