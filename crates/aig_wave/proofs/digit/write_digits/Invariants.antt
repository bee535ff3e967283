use Rattle.std.proofs.Common.{◌≡◌, ◌≤◌, length, drop, false}
use Rattle.std.specs.Fmt.{digits, digits_onto}
use Rattle.aig_wave.proofs.digit.write_digits.Given as goal

abbrev pub invariant-loop-at : goal.invariant-loop-at
invariant-loop-at l = record {
  within : l.at ≤ 64;
  size : length l.room ≡ 64;
  written : digits_onto l.at l.base false l.rest (drop l.at l.room) ≡ digits l.base false l.number;
}

abbrev pub decreases-loop-at : goal.decreases-loop-at
decreases-loop-at l = l.at
