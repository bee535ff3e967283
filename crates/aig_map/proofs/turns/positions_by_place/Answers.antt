use Rattle.std.proofs.Common.{rules, length-set}
use Rattle.aig_map.proofs.Restoring.AtPositions.{one_more_put, all_put}
use Rattle.aig_map.proofs.turns.positions_by_place.Goals as goal

pub loop-position-preserved : goal.loop-position-preserved
loop-position-preserved c = search (rules, length-set, one_more_put)

pub returns : goal.returns
returns c = search (rules, all_put)
