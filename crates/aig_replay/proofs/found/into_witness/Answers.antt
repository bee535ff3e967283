use Rattle.std.proofs.Common.{arith}
use Rattle.aig_replay.proofs.found.into_witness.Goals as goal

pub overflow_add-result : goal.overflow_add-result
overflow_add-result c = omega (arith, c.requires.early)

pub invariant_of-result : goal.invariant_of-result
invariant_of-result c = c.requires.holds
