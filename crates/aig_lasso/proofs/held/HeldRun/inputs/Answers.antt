use Rattle.aig_lasso.proofs.Characters.{each_long}
use Rattle.aig_lasso.proofs.held.HeldRun.inputs.Goals as goal

pub returns-clause-each : goal.returns-clause-each
returns-clause-each c =
    let run = c.self.inside in
    rw (← c.self.view_is) (each_long run.inputs run.count run.steps.items c.self.invariant.whole)
