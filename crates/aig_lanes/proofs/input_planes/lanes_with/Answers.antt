use Rattle.std.proofs.Common.{arith}
use Rattle.aig_lanes.proofs.Side.InputBits.{bits_with}
use Rattle.aig_lanes.proofs.input_planes.lanes_with.Goals as goal

pub returns : goal.returns
returns c k below =
    bits_with c.args.eight.now c.args.first c.args.place k c.told-eight (omega (arith, c.requires.first))
    c.requires.place below
