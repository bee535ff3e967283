use Rattle.aig_info.proofs.LongestPath.{AreTaken}
use Rattle.aig_info.proofs.levels.depth.Given as goal

abbrev pub invariant-loop-place : goal.invariant-loop-place
invariant-loop-place l = AreTaken l.circuit l.place-items l.place-index l.levels l.depth
