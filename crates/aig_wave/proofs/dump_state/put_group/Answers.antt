use Rattle.std.proofs.Common.{◌≢◌, arith, length, refl, ne_eqb}
use Rattle.aig_wave.proofs.Grouped.{bits_change, in_line}
use Rattle.aig_wave.proofs.dump_state.put_group.Goals as goal

pub put_bits-requires : goal.put_bits-requires
put_bits-requires g c =
    let are = c.requires.group.bits (c.if-has_bits_in.ensures.bits refl) in
    record {
      few = c.requires.group.few (c.if-has_bits_in.ensures.bits refl);
      signal_codes = c.requires.signal_codes;
      before = in_line c.args.group.now _ c.args.signal_codes.now (c.if-has_bits_in.ensures.within refl)
          c.requires.group.covers are;
      line = in_line c.args.group.now _ c.args.signal_codes.now (c.if-has_bits_in-2.ensures.within refl)
          c.requires.group.covers are;
    }

pub returns-then-has_bits_in-2 : goal.returns-then-has_bits_in-2
returns-then-has_bits_in-2 g c =
    let are = c.requires.group.bits (c.if-has_bits_in.ensures.bits refl) in
    let low = in_line c.args.group.now (length c.args.before.now) c.args.signal_codes.now
    (c.if-has_bits_in.ensures.within refl)
    c.requires.group.covers are in
    let here = in_line c.args.group.now (length c.args.line.now) c.args.signal_codes.now
    (c.if-has_bits_in-2.ensures.within refl) c.requires.group.covers are in
    let late : c.args.time ≢ 0 = omega arith in
    rw (bits_change c.args.time c.args.before.now c.args.line.now (ne_eqb c.args.time 0 late)
    c.args.signal_codes.now are low
    here) at c.put_bits.ensures
