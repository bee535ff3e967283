use Rattle.std.proofs.Common.{◌≡◌, ◌-◌, ◌≤◌, [], length, replicate}
use Rattle.aig_wave.proofs.signal.no_names.Given as goal

abbrev pub invariant-loop-names : goal.invariant-loop-names
invariant-loop-names l = record {
  within : length l.names.items ≤ l.count;
  empty : l.names.items ≡ replicate (length l.names.items) [];
}

abbrev pub decreases-loop-names : goal.decreases-loop-names
decreases-loop-names l = l.count - length l.names.items
