use Rattle.std.proofs.Common.{get_or}
use Rattle.std.specs.Int.{bit_at}
use Rattle.aig_lanes.proofs.Side.InputBits.{words_in}
use Rattle.aig_lanes.proofs.input_planes.plane_with.Goals as goal

pub returns-clause-bits : goal.returns-clause-bits
returns-clause-bits c l below =
    words_in (λ n. bit_at (get_or c.args.eight.now n 0) c.args.place) c.lanes_with.result c.lanes_with-2.result
    c.lanes_with-3.result c.lanes_with-4.result c.lanes_with.ensures c.lanes_with-2.ensures c.lanes_with-3.ensures
    c.lanes_with-4.ensures l below
