use Rattle.std.proofs.Common.{◌≡◌, ◌∙◌, ℕ, List, ap, length, subst}
use Rattle.std.specs.List.{All, Contains, zip}
use Rattle.aig_circuit.specs.declared.circuit.Circuit.{Circuit}
use Rattle.aig_circuit.specs.declared.circuit.Gate.{Gate}
use Rattle.aig_circuit.specs.Literal.{variable_of}
use Rattle.aig_cuts.specs.declared.cut.Cut.{Cut}
use Rattle.aig_cuts.specs.Cuts.{IsKept, IsRightAs}
use Rattle.aig_cuts.proofs.check.is_cut.Goals as goal

pub returns-then-are_right : goal.returns-then-are_right
returns-then-are_right c is =
    let plan = c.args.plan.now in
    let held : Circuit = c.args.circuit.now in
    let same : c.circuit-circuit.result.now ≡ held = c.circuit-circuit.ensures.value ∙ c.as_checked.ensures.value in
    let gates_are : c.as_slice-gates.result.now ≡ held.gates =
    c.as_slice-gates.ensures ∙ ap (λ (d : Circuit). d.gates) same in
    let bad_are : c.as_slice-bad.result.now ≡ held.bad =
    c.as_slice-bad.ensures ∙ ap (λ (d : Circuit). d.bad) same in
    let gates = c.as_slice-gates.result.now in
    record {
      many = c.if-plan-gates.false ∙ ap length gates_are;
      gates = subst
          (λ (gs : List Gate). (g : Gate) (cut : Cut) → Contains (zip gs plan) (g, cut) → IsRightAs (zip gs plan) g cut)
          gates_are (c.are_right.ensures c.if-are_right.true);
      bad = subst (λ (gs : List Gate). All (λ (l : ℕ). IsKept (zip gs plan) (variable_of l)) held.bad) gates_are
          (subst (λ (ls : List ℕ). All (λ (l : ℕ). IsKept (zip gates plan) (variable_of l)) ls) bad_are
          (c.are_kept.ensures is));
    }
