use Rattle.aig_io.proofs.Puts.{put_twice}
use Rattle.aig_binary.specs.BinaryText.{binary_text}
use Rattle.aig_binary.proofs.Files.{has_deltas}
use Rattle.aig_binary.proofs.writer.put_text.Goals as goal

pub put_gates-requires : goal.put_gates-requires
put_gates-requires g c =
    rw c.as_slice.ensures (has_deltas c.args.circuit.now c.requires.within c.requires.ordered)

pub returns : goal.returns
unfolding binary_text
returns g c =
    put_twice _ _ _ _ _ (rw c.header_numbers.ensures at c.put_header.ensures)
    (put_twice _ _ _ _ _ c.put_front_lines.ensures
    (put_twice _ _ _ _ _ (rw c.as_slice.ensures at c.put_gates.ensures) c.put_tail.ensures))
