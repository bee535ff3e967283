use Rattle.aig_commands.proofs.Refutings.{none_read}
use Rattle.aig_commands.proofs.refuting.read_none_within.Goals as goal

pub returns-clause-read : goal.returns-clause-read
returns-clause-read g c = none_read c.args.request.now c.args.selected.now _ _ c.in_ok-read_refutation.ensures
