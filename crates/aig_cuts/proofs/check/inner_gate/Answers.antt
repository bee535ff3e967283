use Rattle.std.proofs.Common.{◌≡◌, ◌-◌, ◌∙◌, ℕ, ap, arith, get_or, subst, sym}
use Rattle.std.specs.List.{Contains, zip}
use Rattle.std.proofs.lemmas.List.{get_or_default}
use Rattle.aig_cuts.specs.declared.cut.Cut.{Cut}
use Rattle.aig_cuts.specs.declared.cut.Cut.TheVariants.{Inner}
use Rattle.aig_cuts.proofs.Looking.{kept_where, planned_there, variable_there}
use Rattle.aig_cuts.proofs.check.inner_gate.Goals as goal
use Rattle.aig_cuts.proofs.check.inner_gate.Goals.{then-at-gates-via-then-at-gates}
use Rattle.aig_cuts.proofs.check.inner_gate.Goals.{then-at-gates-via-else-at-gates+then-at-plan}

pub returns-then-place-first-clause-kept : goal.returns-then-place-first-clause-kept
returns-then-place-first-clause-kept c _ =
    kept_where c.args.first c.args.gates.now c.args.plan.now c.args.variable c.requires
    (λ k gate_below cut_below named is. absurd (omega (arith, named)))

pub returns-then-at-gates-clause-kept : goal.returns-then-at-gates-clause-kept
returns-then-at-gates-clause-kept c _ =
    kept_where c.args.first c.args.gates.now c.args.plan.now c.args.variable c.requires
    (λ k gate_below cut_below named is. elim c.then-at-gates.branch [
      | then-at-gates-via-then-at-gates w ↦ absurd (omega (arith, named, gate_below))
      | then-at-gates-via-else-at-gates+then-at-plan w ↦ absurd (omega (arith, named, cut_below))
    ])

pub returns-in-Inner-clause-out : goal.returns-in-Inner-clause-out
returns-in-Inner-clause-out c =
    let gates = c.args.gates.now in
    let plan = c.args.plan.now in
    let g = c.index-gates-at.result in
    subst (λ (x : Cut). Contains (zip gates plan) (g, x)) c.in-Inner.is
    (planned_there gates plan (c.variable.inside.0 - c.args.first) g c.index-plan-at.result c.if-at-gates.false
    c.if-at-plan.false c.index-gates-at.is c.index-plan-at.is)

pub returns-in-Inner-clause-named : goal.returns-in-Inner-clause-named
returns-in-Inner-clause-named c =
    let named =
    variable_there c.args.first c.args.gates.now c.requires (c.variable.inside.0 - c.args.first) c.index-gates-at.result
    c.if-at-gates.false (sym c.index-gates-at.is) in
    omega (arith, named)

pub returns-in_default : goal.returns-in_default
returns-in_default c = record {
  out = tt;
  named = tt;
  kept = λ _. kept_where c.args.first c.args.gates.now c.args.plan.now c.args.variable c.requires
      (λ k gate_below cut_below named is.
      let here : c.variable.inside.0 - c.args.first ≡ k = omega (arith, named) in
      let cut = c.index-plan-at.result in
      c.in_default.not-Inner
      (c.index-plan-at.is ∙ ap (λ (j : ℕ). get_or c.args.plan.now j cut) here
      ∙ get_or_default c.args.plan.now k cut Inner cut_below ∙ is));
}
