use Rattle.std.proofs.Common.{◌∙◌, Ok, ap, sym}
use Rattle.std.proofs.lemmas.Result.{err_from_is_err_and}
use Rattle.aig_circuit.specs.declared.circuit.Circuit.{Circuit}
use Rattle.aig_arrays.proofs.Grammar.Decoded.{entries_in_form}
use Rattle.aig_arrays.proofs.Whole.{decoded_right, decoded_wrong, entries_wrong, one_decoded, only_memory}
use Rattle.aig_arrays.proofs.decoded.read_arrays.Goals as goal

pub returns-in_err-circuit-clause-err : goal.returns-in_err-circuit-clause-err
returns-in_err-circuit-clause-err c =
    let h = err_from_is_err_and c.from_residual.result c.from_residual.ensures.1 in
    rw (h.1, h.2)
    (entries_wrong c.args.counts.now c.args.words.now c.args.bytes.now c.in_err-circuit.field-0.0
    c.in_err-circuit.ensures)

pub returns-in_err-circuit-clause-only : goal.returns-in_err-circuit-clause-only
returns-in_err-circuit-clause-only c =
    let h = err_from_is_err_and c.from_residual.result c.from_residual.ensures.1 in
    rw (h.1, h.2)
    (λ d is.
    only_memory c.args.counts.now c.args.words.now c.args.bytes.now d c.in_err-circuit.field-0.0
    (entries_wrong c.args.counts.now c.args.words.now c.args.bytes.now c.in_err-circuit.field-0.0
    c.in_err-circuit.ensures) is)

pub check-requires : goal.check-requires
check-requires c = record {
  in_form =
      entries_in_form c.args.counts.now c.args.words.now c.args.bytes.now c.in_ok-circuit.circuit
      c.in_ok-circuit.ensures;
}

pub returns-in-Ok-clause-only : goal.returns-in-Ok-clause-only
returns-in-Ok-clause-only c = λ d is.
    one_decoded c.args.counts.now c.args.words.now c.args.bytes.now d c.in-Ok.checked (
    decoded_right c.args.counts.now c.args.words.now c.args.bytes.now c.in_ok-circuit.circuit c.in_ok-circuit.ensures
    c.in-Ok.ensures.ok_faultless
    ∙ ap (λ (e : Circuit). Ok e) (sym c.in-Ok.ensures.ok)
    ) is

pub returns-in-Err-clause-only : goal.returns-in-Err-clause-only
returns-in-Err-clause-only c = λ d is.
    only_memory c.args.counts.now c.args.words.now c.args.bytes.now d _ (
    decoded_wrong c.args.counts.now c.args.words.now c.args.bytes.now c.in_ok-circuit.circuit c.in-Err.fault
    c.in_ok-circuit.ensures c.in-Err.ensures.fault
    ) is

pub returns-in-Ok-clause-ok : goal.returns-in-Ok-clause-ok
returns-in-Ok-clause-ok c =
    decoded_right c.args.counts.now c.args.words.now c.args.bytes.now c.in_ok-circuit.circuit c.in_ok-circuit.ensures
    c.in-Ok.ensures.ok_faultless
    ∙ ap (λ (d : Circuit). Ok d) (sym c.in-Ok.ensures.ok)

pub returns-in-Err-clause-err : goal.returns-in-Err-clause-err
returns-in-Err-clause-err c =
    decoded_wrong c.args.counts.now c.args.words.now c.args.bytes.now c.in_ok-circuit.circuit c.in-Err.fault
    c.in_ok-circuit.ensures c.in-Err.ensures.fault
