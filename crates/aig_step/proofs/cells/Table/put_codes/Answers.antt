use Rattle.std.proofs.Common.{rules, arith}
use Rattle.std.proofs.lemmas.List.{drop_all, length-set, with_items_is}
use Rattle.aig_step.proofs.Running.Cells.{are_codes, codes_length, values_are}
use Rattle.aig_step.proofs.Running.Machines.{placed_on}
use Rattle.aig_step.proofs.cells.Table.put_codes.Goals as goal

pub overflow_add-at : goal.overflow_add-at
overflow_add-at c = grind (arith, codes_length c.loop-value.codes c.loop-value.invariant.0)

pub loop-value-preserved : goal.loop-value-preserved
loop-value-preserved c = search (rules, values_are, are_codes, placed_on, length-set)

pub invariant_of-self : goal.invariant_of-self
invariant_of-self c = rw (with_items_is c.self.inside.codes c.loop-value.codes (omega arith)) c.loop-value.invariant.0

pub returns : goal.returns
returns c = search (rules, drop_all, with_items_is)
