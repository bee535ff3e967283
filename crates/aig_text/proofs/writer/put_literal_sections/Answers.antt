use Rattle.aig_io.proofs.Puts.{put_twice}
use Rattle.aig_text.proofs.Written.{literal_sections_text}
use Rattle.aig_text.proofs.writer.put_literal_sections.Goals as goal

pub returns : goal.returns
returns g c =
    rw (← literal_sections_text c.args.circuit.now)
    (put_twice _ _ _ _ _ (rw c.as_slice.ensures at c.put_lines.ensures)
    (put_twice _ _ _ _ _ (rw c.as_slice-2.ensures at c.put_lines-2.ensures)
    (put_twice _ _ _ _ _ (rw c.as_slice-3.ensures at c.put_lines-3.ensures)
    (put_twice _ _ _ _ _ (rw c.as_slice-4.ensures at c.put_lines-4.ensures)
    (put_twice _ _ _ _ _ (rw c.as_slice-5.ensures at c.put_lines-5.ensures)
    (rw c.as_slice-6.ensures at c.put_lines-6.ensures))))))
