use Rattle.aig_io.proofs.Puts.{put_twice}
use Rattle.aig_text.proofs.writer.put_header.Goals as goal

pub returns : goal.returns
returns g c = put_twice _ _ _ _ _ c.put.ensures.put (rw c.shorten.ensures at c.put_more_numbers.ensures)
