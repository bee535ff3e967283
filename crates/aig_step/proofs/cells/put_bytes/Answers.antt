use Rattle.std.proofs.Common.{rules, arith, length-set}
use Rattle.aig_step.proofs.Running.Cells.{codes_length, put_in_bytes}
use Rattle.aig_step.proofs.cells.put_bytes.Goals as goal

pub overflow_mul-codes : goal.overflow_mul-codes
overflow_mul-codes c = grind (arith, codes_length c.args.codes.now c.requires.coded)

pub bounds-codes-variable : goal.bounds-codes-variable
bounds-codes-variable c = omega (arith, c.requires.below, codes_length c.args.codes.now c.requires.coded)

pub overflow_mul-codes-2 : goal.overflow_mul-codes-2
overflow_mul-codes-2 c = grind (arith, codes_length c.args.codes.now c.requires.coded)

pub overflow_add-codes : goal.overflow_add-codes
overflow_add-codes c = grind (arith, codes_length c.args.codes.now c.requires.coded)

pub bounds-codes-variable-2 : goal.bounds-codes-variable-2
bounds-codes-variable-2 c = search (rules, codes_length, length-set)

pub returns : goal.returns
returns c v is =
    rw is (put_in_bytes c.args.codes.now c.args.variable v c.requires.coded c.requires.below)
