use Rattle.std.proofs.Common.{rules}
use Rattle.aig_map.proofs.Sources.Refused.{of_judged, undone_where_judged}
use Rattle.aig_convert.proofs.undoing.undo_by_block.Goals as goal

pub returns-in-Ok-clause-ok : goal.returns-in-Ok-clause-ok
returns-in-Ok-clause-ok g c = search (rules, undone_where_judged)

pub returns-in-Ok-clause-fault : goal.returns-in-Ok-clause-fault
returns-in-Ok-clause-fault g c =
    of_judged g.mapped c.args.block c.args.comment.now c.requires.0 c.requires.1.read c.in-Ok.source
    c.check_source.result c.in-Ok.ensures.ok c.check_source.ensures.err
