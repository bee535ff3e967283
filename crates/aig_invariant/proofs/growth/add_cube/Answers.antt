use Rattle.std.proofs.Common.{◌≡◌, ◌∙◌, ◌+◌, ap, arith, length, map, rules, subst, sym}
use Rattle.aig_circuit.specs.declared.circuit.Circuit.{Circuit}
use Rattle.aig_circuit.specs.Wellformed.{IsWellFormed}
use Rattle.aig_invariant.specs.Invariant.{asked_literals, with_cube}
use Rattle.aig_invariant.specs.Parts.Rows.{value_or_x}
use Rattle.aig_invariant.proofs.Growing.Cubes.{asked_next, asked_now, cube_formed}
use Rattle.aig_invariant.proofs.growth.add_cube.Goals as goal

pub returns-clause-formed : goal.returns-clause-formed
returns-clause-formed c =
    let cube = map value_or_x c.args.row.now in
    let old = c.args.circuit.now in
    let now : Circuit = record c.conjoin-2.new.circuit { bad = c.list-2.new.literals } in
    let same : now ≡ with_cube cube old = search rules in
    let now_is : c.as_slice-2.result.now ≡ asked_now cube old =
    c.as_slice-2.ensures.value ∙ c.in_ok-put_asked.ensures
    ∙ ap (asked_literals cube) (c.as_slice.ensures.value ∙ c.requires.latches.0) in
    let next_is : c.as_slice-4.result.now ≡ asked_next cube old =
    c.as_slice-4.ensures.value ∙ c.in_ok-put_asked-2.ensures
    ∙ ap (asked_literals cube) (c.as_slice-3.ensures.value ∙ c.requires.latches.1) in
    let more : c.conjoin.new.circuit.max_var ≡ old.max_var + length c.as_slice-2.result.now =
    ap (λ (x : Circuit). x.max_var) c.in_ok-met.ensures.grown in
    let constraints : length c.conjoin.new.circuit.constraints ≡ length old.constraints =
    ap (λ (x : Circuit). length x.constraints) c.in_ok-met.ensures.grown in
    let bad : length c.conjoin-2.new.circuit.bad ≡ length old.bad =
    ap (λ (x : Circuit). length x.bad) c.in_ok-met_next.ensures.grown
    ∙ ap (λ (x : Circuit). length x.bad) c.in_ok-met.ensures.grown in
    subst IsWellFormed (sym same)
    (cube_formed cube old c.requires.formed
    (omega (arith, ap length now_is, ap length next_is, more, c.in_ok-met_next.ensures.room))
    (omega (arith, constraints, c.in_ok-list.ensures.room)) (omega (arith, bad, c.in_ok-list-2.ensures.room)))
