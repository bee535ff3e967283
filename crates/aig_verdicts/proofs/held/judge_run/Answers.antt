use Rattle.std.proofs.Common.{◌∙◌, ap}
use Rattle.aig_circuit.specs.declared.circuit.Circuit.{Circuit}
use Rattle.aig_lasso.specs.Goals.{with_goals}
use Rattle.aig_verdicts.proofs.HeldClaims.{verdict_held}
use Rattle.aig_verdicts.proofs.held.judge_run.Goals as goal

pub returns-clause-ok : goal.returns-clause-ok
returns-clause-ok c =
    verdict_held c.args.checked.now c.in_ok-goals.goals c.args.property c.args.run.now c.in_ok-judged.field-0
    (c.in_ok-goals.ensures.ok ∙ ap (λ (k : Circuit). with_goals c.args.property k) c.in_ok-copy.ensures.value)
    c.in_ok-judged.ensures
