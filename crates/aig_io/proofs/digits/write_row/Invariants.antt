use Rattle.std.proofs.Common.{◌≡◌, ◌≤◌, ◌+◌, ◌*◌, ◌++◌, length, take, codes, decimal, flat_map}
use Rattle.aig_io.specs.declared.digits.TheConstants.{MOST_DIGITS}
use Rattle.aig_io.proofs.digits.write_row.Given as goal

abbrev pub invariant-loop-number : goal.invariant-loop-number
invariant-loop-number l = record {
  within : l.end ≤ l.at + MOST_DIGITS + l.number-index * (MOST_DIGITS + 1);
  len : length l.bytes ≡ length l.fn.bytes;
  text : take l.end l.bytes ≡ take l.at l.fn.bytes
      ++ (decimal l.first ++ flat_map (λ n. codes " " ++ decimal n) (take l.number-index l.others));
}
