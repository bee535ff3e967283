use Rattle.std.proofs.Common.{◌≡◌, ◌+◌, ◌*◌, ◌-◌, ◌∙◌, ap, ap₂, arith, drop, take}
use Rattle.aig_lasso.specs.Runs.{StartedRun}
use Rattle.aig_lasso.proofs.Characters.{step_text, within}
use Rattle.aig_lasso.proofs.held.HeldRun.step.Goals as goal

pub overflow_mul-start : goal.overflow_mul-start
overflow_mul-start c =
    let run = c.self.inside in
    let same = ap (λ (r : StartedRun). r.steps) c.self.view_is in
    omega (arith, within _ _ _ _ _ same c.requires c.self.invariant.whole, run.steps.small)

pub overflow_add-result : goal.overflow_add-result
overflow_add-result c =
    let run = c.self.inside in
    let same = ap (λ (r : StartedRun). r.steps) c.self.view_is in
    omega (arith, within _ _ _ _ _ same c.requires c.self.invariant.whole, run.steps.small)

pub slice_bounds-result-end : goal.slice_bounds-result-end
slice_bounds-result-end c =
    let same = ap (λ (r : StartedRun). r.steps) c.self.view_is in
    omega (arith, within _ _ _ _ _ same c.requires c.self.invariant.whole, c.deref.ensures.len)

pub returns : goal.returns
returns c =
    let run = c.self.inside in
    let start = c.args.number * run.inputs in
    let same = ap (λ (r : StartedRun). r.steps) c.self.view_is in
    let size : start + run.inputs - start ≡ run.inputs = omega arith in
    ap₂ take size (ap (drop start) c.deref.ensures.value)
    ∙ step_text run.inputs run.count c.args.number run.steps.items c.args.self.now.steps same c.requires
    c.self.invariant.step_characters
