use Rattle.aig_lanes.proofs.input_planes.put_block.Goals as goal

pub returns-clause-lanes : goal.returns-clause-lanes
returns-clause-lanes c l values vector below words long is =
    c.put_planes.ensures.lanes l _ values vector below (c.put_squares.ensures.bytes l below) words long is
