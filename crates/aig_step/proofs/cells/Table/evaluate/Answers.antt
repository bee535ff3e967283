use Rattle.std.proofs.lemmas.Grind.{common_steps}
use Rattle.std.proofs.Common.{rules, length, ap, arith}
use Rattle.std.proofs.lemmas.List.{length-set, with_items_is}
use Rattle.aig_step.proofs.Running.Cells.{are_codes, codes_length, no_more, one_more, values_are}
use Rattle.aig_step.proofs.cells.Table.evaluate.Goals as goal

pub overflow_sub-variable : goal.overflow_sub-variable
overflow_sub-variable c =
    omega (arith, c.requires.room, ap length c.self.view_is, codes_length c.self.inside.codes.items c.self.invariant)

pub loop-pair-init : goal.loop-pair-init
loop-pair-init c = search (rules, codes_length)

pub overflow_add-variable : goal.overflow_add-variable
overflow_add-variable c = grind (arith, codes_length c.loop-pair.codes c.loop-pair.invariant.0)

pub loop-pair-preserved : goal.loop-pair-preserved
loop-pair-preserved c = grind (arith, common_steps, values_are, length-set, are_codes, one_more)

pub invariant_of-self : goal.invariant_of-self
invariant_of-self c = rw (with_items_is c.self.inside.codes c.loop-pair.codes (omega arith)) c.loop-pair.invariant.0

pub returns : goal.returns
returns c = search (rules, with_items_is, no_more)
