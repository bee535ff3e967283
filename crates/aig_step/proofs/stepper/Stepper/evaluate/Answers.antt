use Rattle.std.proofs.Common.{rules, length-set}
use Rattle.aig_step.proofs.Running.Machines.{placed_length}
use Rattle.aig_step.proofs.stepper.Stepper.evaluate.Goals as goal

pub put_values-requires : goal.put_values-requires
put_values-requires c = search (rules, length-set)

pub invariant_of-self : goal.invariant_of-self
invariant_of-self c = search (rules, placed_length, length-set)
