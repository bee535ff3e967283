use Rattle.aig_io.proofs.Puts.{put_twice}
use Rattle.aig_text.specs.AsciiText.{ascii_text}
use Rattle.aig_text.proofs.writer.put_text.Goals as goal

pub returns : goal.returns
unfolding ascii_text
returns g c =
    put_twice _ _ _ _ _ (rw c.header_numbers.ensures at c.put_header.ensures)
    (put_twice _ _ _ _ _ c.put_sections.ensures c.put_tail.ensures)
