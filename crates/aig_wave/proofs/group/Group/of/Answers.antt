use Rattle.std.proofs.Common.{arith, length, refl}
use Rattle.std.proofs.lemmas.List.{drop_all}
use Rattle.aig_wave.proofs.Grouped.{both_true, next_bit, next_signal}
use Rattle.aig_wave.proofs.group.Group.of.Goals as goal

pub loop-signal_code-preserved : goal.loop-signal_code-preserved
loop-signal_code-preserved c =
    let i = c.loop-signal_code.signal_code-index in
    record {
      covers = λ g low high rest.
          c.loop-signal_code.invariant.covers g (omega (arith, c.in_ok-wider.ensures.start))
          (omega (arith, c.in_ok-wider.ensures.end))
          (next_signal _ _ g c.args.signal_codes.now i _ c.loop-signal_code-test.true
          c.in_ok-wider.ensures.within low high rest);
      few = λ are. c.loop-signal_code.invariant.few (both_true _ _ _ (c.in_ok-wider.ensures.bits) are).0;
      bits = λ are rest.
          let is = both_true _ _ _ (c.in_ok-wider.ensures.bits) are in
          c.loop-signal_code.invariant.bits is.0
          (next_bit c.args.signal_codes.now i _ c.loop-signal_code-test.true is.1 rest);
    }

pub returns : goal.returns
returns c = record {
  count = refl;
  group =
      let none = drop_all c.loop-signal_code.signal_code-index c.args.signal_codes.now c.loop-signal_code-test.false in
      record {
        covers = c.loop-signal_code.invariant.covers
            (record {
              count = length c.args.signal_codes.now;
              start = c.loop-signal_code.group.start;
              end = c.loop-signal_code.group.end;
              bits = c.loop-signal_code.group.bits;
            })
            (omega arith) (omega arith) (rw none tt);
        few = c.loop-signal_code.invariant.few;
        bits = λ are. c.loop-signal_code.invariant.bits are (rw none tt);
      };
}
