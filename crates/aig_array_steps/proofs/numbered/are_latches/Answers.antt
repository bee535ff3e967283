use Rattle.std.proofs.Common.{arith, get_or, rules}
use Rattle.aig_array_steps.specs.Parts.Words.{AreLatchWords}
use Rattle.aig_array_steps.proofs.Threes.{behind_length, right_ahead}
use Rattle.aig_array_steps.proofs.numbered.are_latches.Goals as goal

pub loop-rest-preserved : goal.loop-rest-preserved
loop-rest-preserved c =
    let v = c.loop-rest.variable in
    let words = c.loop-rest.rest.now in
    let ahead = right_ahead (AreLatchWords c.args.highest) v words c.in-len3-up.len_at_least in
    let here : AreLatchWords c.args.highest v (get_or words 0 0) (get_or words 1 0) (get_or words 2 0) = search rules in
    record {
      place = omega (arith, behind_length words c.in-len3-up.len_at_least);
      left = (
        λ h. c.loop-rest.invariant.left.0 (ahead.1 (here, h)),
        λ h. (ahead.0 (c.loop-rest.invariant.left.1 h)).1,
      );
    }
