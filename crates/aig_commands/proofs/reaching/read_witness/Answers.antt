use Rattle.std.proofs.lemmas.Result.{err_from_is_err_and}
use Rattle.aig_commands.proofs.Answered.{answer_refused, witness_read}
use Rattle.aig_commands.proofs.reaching.read_witness.Goals as goal

pub returns-in_err-witness-clause-read : goal.returns-in_err-witness-clause-read
returns-in_err-witness-clause-read g c =
    let h = err_from_is_err_and c.from_residual.result c.from_residual.ensures.1 in
    rw (h.1, h.2)
    (answer_refused c.args.request.now c.args.bad c.args.selected.now c.in_err-witness.field-0.0 _ _
    c.in_err-witness.ensures)

pub returns-clause-read : goal.returns-clause-read
returns-clause-read g c =
    witness_read c.args.request.now c.args.bad c.args.selected.now c.in_ok-witness.witness _ _ c.requires.property
    c.in_ok-witness.ensures
