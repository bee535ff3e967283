use Rattle.std.proofs.Common.{◌∙◌, arith}
use Rattle.aig_image.specs.Parts.Numbers.{number_of}
use Rattle.aig_arrays.proofs.Numbering.{numbers_placed}
use Rattle.aig_arrays.proofs.numbered.put_numbers.Goals as goal

pub returns : goal.returns
returns c =
    let mid_is = rw c.as_slice.ensures at c.put_numbers_of-end.ensures.end in
    let end_is = rw c.as_slice-2.ensures at c.put_numbers_of-end-2.ensures.end in
    (rw c.as_slice-3.ensures at c.put_numbers_of.ensures.numbers)
    ∙ numbers_placed (number_of c.args.new.now) c.args.circuit.now c.args.numbers.now _ _ _ _
    (rw c.as_slice.ensures at c.put_numbers_of-end.ensures.numbers)
    (rw c.as_slice-2.ensures at c.put_numbers_of-end-2.ensures.numbers)
    (omega (arith, mid_is))
    (omega (arith, mid_is, end_is))
