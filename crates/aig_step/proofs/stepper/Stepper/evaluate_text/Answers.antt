use Rattle.std.proofs.Common.{rules, eq-eqb}
use Rattle.aig_step.proofs.LineValues.{values_length}
use Rattle.aig_step.proofs.stepper.Stepper.evaluate_text.Goals as goal

pub returns-clause-good : goal.returns-clause-good
returns-clause-good c e = search (rules, eq-eqb, values_length)
