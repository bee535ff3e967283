use Rattle.std.proofs.Common.{◌≡◌, List, arith, length, subst, ℕ}
use Rattle.std.specs.List.{AllByRecursion}
use Rattle.aig_circuit.specs.declared.value.Val.{Val}
use Rattle.aig_lasso.proofs.Characters.{as_many, starts_nowhere, starts_there}
use Rattle.aig_lasso.proofs.judge.may_run.Goals as goal

pub returns-then-inputs-len-clause-no : goal.returns-then-inputs-len-clause-no
returns-then-inputs-len-clause-no c = λ _ start lasso.
    let run = c.args.run.now in
    let circuit = c.args.circuit.now in
    let is = lasso.lasso in
    absurd (omega (
      arith,
      c.if-inputs-len.true,
      c.inputs.ensures.is,
      c.len.ensures,
      as_many circuit run.inputs run.first run.steps lasso.rows is.stem is.turn is.turns lasso.trace.1 is.parted
          c.inputs.ensures.each,
    ))

pub returns-clause-first : goal.returns-clause-first
returns-clause-first c = λ is_true.
    starts_there c.as_slice.result.now c.args.circuit.now.latches c.first.result.now c.args.run.now.first
    c.may_start_in.result c.may_start_in.ensures c.as_slice.ensures c.first.ensures is_true

pub returns-clause-steps : goal.returns-clause-steps
returns-clause-steps c = λ _.
    let run = c.args.run.now in
    let same : run.inputs ≡ length c.args.circuit.now.inputs =
    omega (arith, c.if-inputs-len.false, c.inputs.ensures.is, c.len.ensures) in
    subst (λ (n : ℕ). AllByRecursion (λ (given : List Val). length given ≡ n) run.steps) same c.inputs.ensures.each

pub returns-clause-no : goal.returns-clause-no
returns-clause-no c = λ is_false start lasso.
    starts_nowhere c.as_slice.result.now c.args.circuit.now.latches c.first.result.now c.args.run.now.first
    c.may_start_in.result c.may_start_in.ensures c.as_slice.ensures c.first.ensures is_false lasso.trace.0
