use Rattle.std.proofs.Common.{arith}
use Rattle.aig_places.proofs.Side.Tables.{lane_length, pair_put}
use Rattle.aig_places.proofs.lanes.put_pair.Goals as goal

pub returns : goal.returns
returns c l values x is pair =
    pair_put l c.args.planes.now values c.args.variable c.args.one c.args.zero x is pair
    (omega (arith, c.requires, lane_length l c.args.planes.now values is))
