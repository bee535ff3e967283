use Rattle.std.proofs.Common.{◌≡◌, ◌∙◌, List, ap, length, replicate, subst, sym}
use Rattle.aig_circuit.specs.declared.circuit.Circuit.{Circuit}
use Rattle.aig_cuts.specs.declared.cut.Cut.{Cut}
use Rattle.aig_cuts.specs.declared.cut.Cut.TheVariants.{Plain}
use Rattle.aig_cuts.specs.Cuts.{IsCutOf}
use Rattle.aig_cuts.proofs.Plain.{plain_is_right}
use Rattle.aig_cuts.proofs.plan.plain_cuts.Goals as goal

pub returns : goal.returns
returns c =
    let held : Circuit = c.args.circuit.now in
    let same : c.circuit.result.now ≡ held = c.circuit.ensures.value ∙ c.as_checked.ensures.value in
    let many = c.len-gates.ensures ∙ ap (λ (d : Circuit). length d.gates) same in
    let plan_is : c.in_ok-plan.plan.items ≡ replicate (length held.gates) Plain =
    c.in_ok-plan.ensures.items_if_clones_equal (λ y e. e) ∙ ap (λ n. replicate n Plain) many in
    subst (λ (plan : List Cut). IsCutOf plan held) (sym plan_is) (plain_is_right held)
