use Rattle.std.proofs.Common.{◌≡◌, ◌++◌, ◌∙◌, [], arith, sym}
use Rattle.std.proofs.lemmas.Result.{IfOk-weaker}
use Rattle.aig_core.specs.Parts.Parted.{AreParts}
use Rattle.aig_core.proofs.Checking.Faultless.{of_circuit, whole}
use Rattle.aig_circuit.proofs.Checking.{defined_gates, defined_inputs, defined_latches}
use Rattle.aig_core.proofs.checks.distinct.is_defined_once_by_parts.Goals as goal

pub returns : goal.returns
returns c =
    let circuit = c.args.circuit.now in
    let none : AreParts c.deref_mut.result.now [] = rw c.deref_mut.ensures.value c.in_ok-parts.ensures in
    let len : c.in_ok-parts.parts.len ≡ 256 = omega (arith, c.in_ok-parts.parts.ok.0, c.in_ok-parts.ensures.many) in
    let inputs : AreParts c.deref_mut-2.result.now ([] ++ defined_inputs circuit.inputs) =
    rw c.deref_mut-2.ensures.value
    (whole _ c.put_all.new.parts _ c.in_ok-parts.parts.len (c.put_all.ensures.many ∙ sym len)
    (c.in_ok-put_all.ensures.put [] none)) in
    let latches : AreParts c.deref_mut-3.result.now
    (([] ++ defined_inputs circuit.inputs) ++ defined_latches circuit.latches) =
    rw c.deref_mut-3.ensures.value
    (whole _ c.put_all-2.new.parts _ c.in_ok-parts.parts.len (c.put_all-2.ensures.many ∙ sym len)
    (c.in_ok-put_all-2.ensures.put ([] ++ defined_inputs circuit.inputs) inputs)) in
    let all : AreParts c.deref.result.now
    ((([] ++ defined_inputs circuit.inputs) ++ defined_latches circuit.latches) ++ defined_gates circuit.gates) =
    rw c.deref.ensures.value
    (whole _ c.put_all-3.new.parts _ c.in_ok-parts.parts.len (c.put_all-3.ensures.many ∙ sym len)
    (c.in_ok-put_all-3.ensures.put
    (([] ++ defined_inputs circuit.inputs) ++ defined_latches circuit.latches) latches)) in
    IfOk-weaker c.are_distinct.result _ _ (λ once is. of_circuit circuit c.deref.result.now once all is)
    c.are_distinct.ensures
