use Rattle.aig_commands.proofs.Selected.{model_read}
use Rattle.aig_commands.proofs.reaching.read_selected.Goals as goal

pub returns-clause-read : goal.returns-clause-read
returns-clause-read g c =
    model_read c.args.request.now c.in_ok-found.found c.selected_with_clauses.result _ _
    c.selected_with_clauses.ensures.ok
    c.selected_with_clauses.ensures.there c.selected_with_clauses.ensures.clauses c.selected_with_clauses.ensures.err
    c.in_ok-found.ensures
