use Rattle.std.proofs.Common.{ap}
use Rattle.aig_step.specs.Parts.Stepping.{Stepping}
use Rattle.aig_lasso.proofs.Steps.{entered}
use Rattle.aig_lasso.proofs.search.enter_first_state.Goals as goal

pub returns-clause-entered : goal.returns-clause-entered
returns-clause-entered c = λ k rows of.
    entered k c.args.run.now rows c.args.stepper.now c.read_state.new.self c.first.result.now c.read_state.result of
    c.first.ensures c.read_state.ensures.good c.read_state.ensures.bad
    (ap (λ (s : Stepping). s.circuit) c.read_state.ensures.stays)
