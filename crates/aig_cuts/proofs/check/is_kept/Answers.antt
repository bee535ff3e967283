use Rattle.std.proofs.Common.{◌∙◌, ap, not, subst}
use Rattle.std.specs.List.{zip}
use Rattle.aig_cuts.specs.Cuts.{IsKept}
use Rattle.aig_cuts.proofs.check.is_kept.Goals as goal

pub returns : goal.returns
returns c is =
    subst (IsKept (zip c.args.gates.now c.args.plan.now)) c.var.ensures
    (c.inner_gate.ensures.kept (c.is_none.ensures ∙ ap not is))
