use Rattle.std.proofs.Common.{◌≡◌, List, length, subst, ℕ}
use Rattle.std.specs.List.{AllByRecursion}
use Rattle.aig_circuit.specs.declared.circuit.Circuit.{Circuit}
use Rattle.aig_circuit.specs.declared.value.Val.{Val}
use Rattle.aig_meaning.specs.Trace.{IsFirstState}
use Rattle.aig_lasso.specs.Judging.{IsLassoFrom}
use Rattle.aig_lasso.proofs.Judged.{is_told}
use Rattle.aig_lasso.proofs.judge.judge_lasso.Goals as goal

pub returns-then-not-may_run : goal.returns-then-not-may_run
returns-then-not-may_run c =
    let run = c.args.run.now in
    subst (λ (k : Circuit). (start : ℕ) → ¬ IsLassoFrom k run.first run.steps start) c.circuit.ensures.value
    (c.may_run.ensures.no c.if-not-may_run.true)

pub returns : goal.returns
returns c =
    let run = c.args.run.now in
    let same = c.circuit.ensures.value in
    let formed = c.circuit.ensures.well_formed in
    is_told c.args.goals.now run.first run.steps c.judge_run-judged.result formed
    (subst (λ (k : Circuit). IsFirstState k run.first) same (c.may_run.ensures.first c.if-not-may_run.false))
    (subst (λ (k : Circuit). AllByRecursion (λ (given : List Val). length given ≡ length k.inputs) run.steps) same
    (c.may_run.ensures.steps c.if-not-may_run.false))
    (λ rows trace.
    c.judge_run-judged.ensures c.args.goals.now rows
    (record { formed = formed; means = c.in_ok-stepper.ensures.same; trace = trace }))
