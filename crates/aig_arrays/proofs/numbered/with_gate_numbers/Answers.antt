use Rattle.std.proofs.Common.{◌∙◌, ap, arith, length, rules}
use Rattle.std.specs.List.{range_with_len}
use Rattle.aig_arrays.proofs.Numbering.{gates_at_front, given_fit}
use Rattle.aig_arrays.proofs.Placing.{length-placed}
use Rattle.aig_arrays.proofs.numbered.with_gate_numbers.Goals as goal

pub put_given-requires : goal.put_given-requires
put_given-requires c =
    let long =
    ap length c.put_first_numbers.ensures
    ∙ length-placed 0 (range_with_len 1 c.count_before_gates-before.result) c.args.numbers.now in
    omega (
      arith,
      long,
      rw c.circuit.ensures.value at c.count_before_gates-before.ensures,
      given_fit c.args.checked c.args.gates.now c.circuit.ensures.well_formed c.requires.are,
      c.requires.room,
    )

pub returns-clause-ok : goal.returns-clause-ok
returns-clause-ok c =
    gates_at_front c.args.checked c.in_ok-image.image c.args.gates.now c.put_first_numbers.new.numbers
    c.args.numbers.now c.put_given.new.numbers c.count_before_gates-before.result c.circuit.ensures.well_formed
    c.requires.are (search rules) c.requires.room c.put_first_numbers.ensures
    (rw c.circuit.ensures.value at c.count_before_gates-before.ensures) c.put_given.ensures
