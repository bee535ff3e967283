use Rattle.std.proofs.Common.{◌<◌, ◌∙◌, List, ap, arith, length, sym}
use Rattle.aig_circuit.specs.declared.value.Val.{Val}
use Rattle.aig_lasso.specs.Parts.Searching.{are_same_values}
use Rattle.aig_lasso.proofs.Steps.{step_here, step_later}
use Rattle.aig_lasso.proofs.search.find_state.Goals as goal

pub returns-then-are_same-clause-first : goal.returns-then-are_same-clause-first
returns-then-are_same-clause-first c = λ k rows begun.
    let run = c.args.run.now in
    let step = c.loop-step.step in
    let on = c.loop-step.invariant.on k rows begun in
    let low : step < length run.steps = omega (arith, c.loop-step-test.true, c.count-step-end.ensures) in
    let tested = c.are_same.ensures ∙ ap (λ (vs : List Val). are_same_values vs c.args.state.now) c.state.ensures.is in
    sym (step_here k c.loop-step.stepper run rows step on.0 low c.args.state.now (sym tested ∙ c.if-are_same.true))
    ∙ on.1

pub loop-step-preserved : goal.loop-step-preserved
loop-step-preserved c =
    let run = c.args.run.now in
    let step = c.loop-step.step in
    let low : step < length run.steps = omega (arith, c.loop-step-test.true, c.count-step-end.ensures) in
    let tested = c.are_same.ensures ∙ ap (λ (vs : List Val). are_same_values vs c.args.state.now) c.state.ensures.is in
    record {
      circuit = c.take_step.ensures.circuit ∙ c.loop-step.invariant.circuit;
      on = λ k rows begun.
          let on = c.loop-step.invariant.on k rows begun in (
            (c.take_step.ensures.took k rows on.0).1.stands,
            sym (step_later k c.loop-step.stepper run rows step on.0 low c.args.state.now
                (sym tested ∙ c.if-are_same.false))
                ∙ on.1,
          );
    }
