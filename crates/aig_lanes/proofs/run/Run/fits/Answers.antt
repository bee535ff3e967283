use Rattle.std.proofs.Common.{◌≡◌, ◌∙◌, List, length, ap, refl, sym, subst, All, take_all}
use Rattle.std.proofs.lemmas.List.Elements.{All-more}
use Rattle.aig_circuit.specs.declared.circuit.Circuit.{Circuit}
use Rattle.aig_circuit.specs.declared.value.Val.{Val}
use Rattle.aig_lanes.proofs.run.Run.fits.Goals as goal

pub loop-vector-preserved : goal.loop-vector-preserved
loop-vector-preserved c =
    let items = c.as_slice-vector-items.result.now in
    let i = c.loop-vector.vector-index in
    let item = c.vector-item.result in
    let here = ap length (sym c.vector-item.is) ∙ sym c.len.ensures ∙ c.if-len-inputs.false ∙ c.len-inputs.ensures
    ∙ ap (λ (k : Circuit). length k.inputs) c.circuit.ensures.value in
    All-more (λ (vector : List Val). length vector ≡ length c.args.checked.now.inputs) items i item
    c.loop-vector-test.true c.loop-vector.invariant here

pub returns : goal.returns
returns c =
    let items = c.as_slice-vector-items.result.now in
    let fits : List Val → Type 0 = λ vector. length vector ≡ length c.args.checked.now.inputs in (
      λ _.
          subst (λ (xs : List (List Val)). All fits xs) c.as_slice-vector-items.ensures
          (subst (λ (xs : List (List Val)). All fits xs)
          (take_all c.loop-vector.vector-index items c.loop-vector-test.false) c.loop-vector.invariant),
      λ _. refl,
    )
