use Rattle.std.proofs.Common.{◌∙◌, None, ap}
use Rattle.std.proofs.lemmas.Result.{err_from_is_err_and}
use Rattle.aig_circuit.specs.declared.circuit.Circuit.{Circuit}
use Rattle.aig_live.specs.FoundLasso.{lasso_in}
use Rattle.aig_commands.proofs.Answered.{answer_refused, lasso_read}
use Rattle.aig_commands.proofs.reaching.read_lasso.Goals as goal

pub returns-in_err-witness-clause-read : goal.returns-in_err-witness-clause-read
returns-in_err-witness-clause-read g c =
    let h = err_from_is_err_and c.from_residual.result c.from_residual.ensures.1 in
    rw (h.1, h.2)
    (answer_refused c.args.request.now None c.args.selected.now c.in_err-witness.field-0.0 _ _
    c.in_err-witness.ensures)

pub returns-clause-read : goal.returns-clause-read
returns-clause-read g c =
    lasso_read c.args.request.now c.args.number c.args.selected.now c.in_ok-witness.witness c.new-lasso.result _ _
    c.requires.property
    (c.new-lasso.ensures
    ∙ ap (λ (made : Circuit). lasso_in c.args.number made c.in_ok-witness.witness) c.circuit.ensures.value)
    c.in_ok-witness.ensures
