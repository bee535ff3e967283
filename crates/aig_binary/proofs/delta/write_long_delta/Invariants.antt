use Rattle.aig_binary.proofs.Deltas.Shortest.{IsGoingOn}
use Rattle.aig_binary.proofs.delta.write_long_delta.Given as goal

abbrev pub invariant-loop-left : goal.invariant-loop-left
invariant-loop-left l = IsGoingOn l.fn.bytes l.bytes l.at l.end l.value l.left

abbrev pub decreases-loop-left : goal.decreases-loop-left
decreases-loop-left l = l.left
