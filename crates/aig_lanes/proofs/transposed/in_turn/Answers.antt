use Rattle.std.proofs.Common.{refl}
use Rattle.aig_lanes.proofs.Side.Eights.{first_half, second_half}
use Rattle.aig_lanes.proofs.transposed.in_turn.Goals as goal

pub returns : goal.returns
returns c = record {
  first = λ m below. first_half m c.args.one c.args.other c.fits-one.0 below _ refl;
  second = λ m below. second_half m c.args.one c.args.other c.fits-one.0 below _ refl;
}
