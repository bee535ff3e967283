use Rattle.std.proofs.Common.{sym}
use Rattle.aig_lasso.proofs.Characters.{many}
use Rattle.aig_lasso.proofs.held.HeldRun.count.Goals as goal

pub returns : goal.returns
returns c = rw (← c.self.view_is) (sym (many c.self.inside.inputs c.self.inside.count c.self.inside.steps.items))
