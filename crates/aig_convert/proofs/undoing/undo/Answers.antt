use Rattle.aig_map.proofs.Sources.Refused.{only_undone}
use Rattle.aig_convert.proofs.undoing.undo.Goals as goal

pub returns-clause-only : goal.returns-clause-only
returns-clause-only c = only_undone c.args.image c.recover.result c.recover.ensures.ok c.recover.ensures.fault
