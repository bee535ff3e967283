use Rattle.std.proofs.Common.{◌≡◌, ◌-◌, ◌≤◌, None, length, replicate}
use Rattle.aig_pairing.proofs.names.no_names.Given as goal

abbrev pub invariant-loop-names : goal.invariant-loop-names
invariant-loop-names l = record {
  within : length l.names.items ≤ l.count;
  empty : l.names.items ≡ replicate (length l.names.items) None;
}

abbrev pub decreases-loop-names : goal.decreases-loop-names
decreases-loop-names l = l.count - length l.names.items
