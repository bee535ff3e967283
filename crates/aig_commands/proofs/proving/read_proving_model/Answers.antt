use Rattle.aig_commands.specs.Proving.{over_one_frame}
use Rattle.aig_commands.proofs.Selected.{model_read}
use Rattle.aig_commands.proofs.proving.read_proving_model.Goals as goal

pub returns : goal.returns
returns g c =
    model_read (over_one_frame c.args.request.now) c.in_ok-found.found c.selected_with_clauses.result _ _
    c.selected_with_clauses.ensures.ok c.selected_with_clauses.ensures.there c.selected_with_clauses.ensures.clauses
    c.selected_with_clauses.ensures.err c.in_ok-found.ensures
