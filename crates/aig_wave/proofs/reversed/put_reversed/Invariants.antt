use Rattle.std.proofs.Common.{length, reverse}
use Rattle.aig_io.specs.Output.{Appended}
use Rattle.aig_wave.proofs.reversed.put_reversed.Given as goal

-- the characters that are left make the text of all
abbrev pub invariant-loop-rest : goal.invariant-loop-rest
invariant-loop-rest g l = (o : _) → Appended l.output o (reverse l.rest) → Appended l.fn.output o (reverse l.bytes)

abbrev pub decreases-loop-rest : goal.decreases-loop-rest
decreases-loop-rest g l = length l.rest
