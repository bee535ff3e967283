use Rattle.std.proofs.lemmas.Result.{err_from_is_err_and}
use Rattle.aig_commands.specs.Unrolling.{property_of}
use Rattle.aig_commands.proofs.Selected.{not_asked, not_unrolled, not_written, unrolled_for}
use Rattle.aig_commands.proofs.unrolling.unroll_whole.Goals as goal

pub returns-in_err-selected-clause-err : goal.returns-in_err-selected-clause-err
returns-in_err-selected-clause-err c =
    let h = err_from_is_err_and c.from_residual.result c.from_residual.ensures.1 in
    rw (h.1, h.2)
    (not_asked c.args.form c.args.frames c.args.found c.in_err-selected.field-0.0
    (rw c.property_of.ensures at c.in_err-selected.ensures.err))

pub returns-in_err-circuit-clause-err : goal.returns-in_err-circuit-clause-err
returns-in_err-circuit-clause-err c =
    let h = err_from_is_err_and c.from_residual-in_err-circuit.result c.from_residual-in_err-circuit.ensures.1 in
    rw (h.1, h.2)
    (not_unrolled c.args.form c.args.frames c.args.found c.in_ok-selected.selected c.in_err-circuit.field-0.0
    (rw c.property_of.ensures at c.in_ok-selected.ensures.there)
    (rw c.property_of.ensures at c.in_ok-selected.ensures.ok) c.in_err-circuit.ensures.err)

pub returns-in-Ok-clause-ok : goal.returns-in-Ok-clause-ok
returns-in-Ok-clause-ok c = (
  unrolled_for (property_of c.args.form) c.args.frames c.args.found c.in_ok-selected.selected c.in_ok-circuit.circuit
      (rw c.property_of.ensures at c.in_ok-selected.ensures.there)
      (rw c.property_of.ensures at c.in_ok-selected.ensures.ok) c.in_ok-circuit.ensures.supported
      c.in_ok-circuit.ensures.ok,
  c.in-Ok.ensures.ok,
)

pub returns-in-Err-clause-err : goal.returns-in-Err-clause-err
returns-in-Err-clause-err c =
    not_written c.args.form c.args.frames c.args.found c.in_ok-circuit.circuit c.in-Err.fault
    (unrolled_for (property_of c.args.form) c.args.frames c.args.found c.in_ok-selected.selected c.in_ok-circuit.circuit
    (rw c.property_of.ensures at c.in_ok-selected.ensures.there)
    (rw c.property_of.ensures at c.in_ok-selected.ensures.ok) c.in_ok-circuit.ensures.supported
    c.in_ok-circuit.ensures.ok)
    c.in-Err.ensures.err
