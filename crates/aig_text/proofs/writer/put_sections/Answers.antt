use Rattle.aig_io.proofs.Puts.{put_twice}
use Rattle.aig_text.proofs.Written.{sections_text}
use Rattle.aig_text.proofs.writer.put_sections.Goals as goal

pub returns : goal.returns
returns g c =
    rw (← sections_text c.args.circuit.now)
    (put_twice _ _ _ _ _ (rw c.as_slice.ensures at c.put_lines.ensures)
    (put_twice _ _ _ _ _ (rw c.as_slice-2.ensures at c.put_lines-2.ensures)
    (put_twice _ _ _ _ _ c.put_literal_sections.ensures (rw c.as_slice-3.ensures at c.put_lines-3.ensures))))
