use Rattle.aig_binary.proofs.Deltas.Reading.{AreRead}
use Rattle.aig_binary.proofs.delta.get_groups.Given as goal

abbrev pub invariant-loop-at : goal.invariant-loop-at
invariant-loop-at l = AreRead l.bytes l.at l.value l.weight
