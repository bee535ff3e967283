use Rattle.std.proofs.Common.{drop_of_length-le, arith, ap, false}
use Rattle.std.specs.Fmt.{digits, digits_onto}
use Rattle.aig_wave.proofs.digit.write_digits.Goals as goal

pub loop-at-init : goal.loop-at-init
unfolding digits
loop-at-init c = record {
  within = omega arith;
  size = c.told-room;
  written = ap (digits_onto 64 c.args.base false c.args.number)
      (drop_of_length-le c.args.room.now {i = 64} (omega (arith, c.told-room)));
}
