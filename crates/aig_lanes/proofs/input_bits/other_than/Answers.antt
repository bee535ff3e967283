use Rattle.aig_lanes.proofs.Side.InputBits.{differing_bits}
use Rattle.aig_lanes.proofs.input_bits.other_than.Goals as goal

pub returns : goal.returns
returns c k below inside =
    differing_bits c.args.text.now c.args.first c.args.character k c.requires below
