use Rattle.aig_commands.proofs.Properties.{bad_state_err, justice_err}
use Rattle.aig_commands.proofs.property.property_model.Goals as goal

pub returns-in-Bad-clause-err : goal.returns-in-Bad-clause-err
returns-in-Bad-clause-err c =
    rw c.in-Bad.is
    (bad_state_err c.in-Bad.number c.args.found c.with_selected_bad.result c.with_selected_bad.ensures.err)

pub returns-in-Justice-clause-err : goal.returns-in-Justice-clause-err
returns-in-Justice-clause-err c =
    rw c.in-Justice.is (justice_err c.in-Justice.number c.args.found c.live.result c.live.ensures.err)
