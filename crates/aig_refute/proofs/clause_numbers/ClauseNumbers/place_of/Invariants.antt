use Rattle.std.proofs.Common.{◌-◌}
use Rattle.aig_refute.proofs.clause_numbers.ClauseNumbers.place_of.Given as goal

abbrev pub decreases-loop-low : goal.decreases-loop-low
decreases-loop-low l = l.high - l.low
