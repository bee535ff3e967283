use Rattle.aig_arrays.proofs.Numbering.{noted_at_front}
use Rattle.aig_arrays.proofs.numbered.by_numbers.Goals as goal

pub returns : goal.returns
returns c =
    noted_at_front c.args.checked c.image.result c.args.renumbering c.args.numbers.now c.put_numbers.new.numbers
    c.circuit.ensures.well_formed c.requires.of_it
    (rw c.into_circuit.ensures.value at c.image.ensures)
    c.requires.room
    (rw (c.numbers.ensures, c.circuit.ensures.value) at c.put_numbers.ensures)
