use Rattle.std.proofs.Common.{rules, length-set}
use Rattle.aig_image.proofs.Numbering.Places.{at_place}
use Rattle.aig_map.proofs.Sources.Refused.{one_more_put}
use Rattle.aig_map.proofs.undone.put_at_positions.Goals as goal

pub loop-place-preserved : goal.loop-place-preserved
loop-place-preserved c = search (rules, at_place, length-set, one_more_put)
