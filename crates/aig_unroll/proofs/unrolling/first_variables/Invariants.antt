use Rattle.std.specs.Prelude.{◌≡◌}
use Rattle.std.specs.List.{range_with_len}
use Rattle.aig_unroll.proofs.unrolling.first_variables.Given as goal

abbrev pub invariant-loop-before : goal.invariant-loop-before
invariant-loop-before l = l.variables.items ≡ range_with_len 1 l.before
