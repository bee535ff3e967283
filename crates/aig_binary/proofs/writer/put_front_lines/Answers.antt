use Rattle.aig_io.proofs.Puts.{put_twice}
use Rattle.aig_binary.proofs.Files.{lines_text}
use Rattle.aig_binary.proofs.writer.put_front_lines.Goals as goal

pub returns : goal.returns
returns g c =
    rw (← lines_text c.args.circuit.now)
    (put_twice _ _ _ _ _ (rw c.as_slice.ensures at c.put_next_lines.ensures)
    c.put_literal_sections.ensures)
