use Rattle.std.proofs.Common.{◌≡◌, ◌/◌, ◌<◌, length, [], ◌∙◌, arith}
use Rattle.aig_circuit.specs.Literal.{negation_of}
use Rattle.aig_places.proofs.Side.Tables.{lane_length, pair_at}
use Rattle.aig_places.proofs.lanes.planes_of.Goals as goal

pub returns : goal.returns
returns c l values is =
    let planes = c.args.planes.now in
    let literal : c.literal.inside.0 ≡ c.args.literal = c.literal.view_is in
    let negation : c.result.inside.0 ≡ negation_of c.args.literal = c.result.view_is ∙ c.negated.ensures in
    let below : c.args.literal / 2 < length values =
    omega (arith, c.requires, lane_length l planes values is) in
    rw (literal, negation) (pair_at l planes values is c.args.literal [] [] below)
