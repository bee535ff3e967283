use Rattle.std.proofs.Common.{arith}
use Rattle.aig_wave.proofs.layout.add_kind.Goals as goal

pub add_signals-requires-clause-count : goal.add_signals-requires-clause-count
add_signals-requires-clause-count c = omega (arith, c.in_ok-names.ensures.count, c.requires.count)
