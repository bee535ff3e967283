use Rattle.std.proofs.Common.{refl}
use Rattle.aig_lanes.proofs.Side.Sheets.{no_bit, some_bit}
use Rattle.aig_lanes.proofs.byte_rows.lane_character.Goals as goal

pub returns-then-ones-bit-eq0 : goal.returns-then-ones-bit-eq0
returns-then-ones-bit-eq0 c = λ place is. rw (no_bit c.args.ones c.args.bit place is c.if-ones-bit-eq0.true) refl

pub returns-then-zeros-bit-eq0 : goal.returns-then-zeros-bit-eq0
returns-then-zeros-bit-eq0 c = λ place is.
    rw (
      some_bit c.args.ones c.args.bit place is c.if-ones-bit-eq0.false,
      no_bit c.args.zeros c.args.bit place is c.if-zeros-bit-eq0.true,
    ) refl

pub returns-else-zeros-bit-eq0 : goal.returns-else-zeros-bit-eq0
returns-else-zeros-bit-eq0 c = λ place is.
    rw (
      some_bit c.args.ones c.args.bit place is c.if-ones-bit-eq0.false,
      some_bit c.args.zeros c.args.bit place is c.if-zeros-bit-eq0.false,
    ) refl
