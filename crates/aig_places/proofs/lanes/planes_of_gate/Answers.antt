use Rattle.aig_meaning.specs.Meaning.{literal_value}
use Rattle.aig_step.specs.Parts.Tables.{read_from}
use Rattle.aig_places.proofs.Side.Tables.{and_pair}
use Rattle.aig_places.proofs.lanes.planes_of_gate.Goals as goal

pub returns : goal.returns
returns c l values is =
    let left = c.planes_of.result in
    let right = c.planes_of-2.result in
    and_pair l left.0 left.1 right.0 right.1 (literal_value (read_from values) c.args.pair.left)
    (literal_value (read_from values) c.args.pair.right) (c.planes_of.ensures l values is)
    (c.planes_of-2.ensures l values is)
