use Rattle.std.proofs.Common.{◌<◌, [], ℕ, slice_index_or}
use Rattle.aig_circuit.specs.Wellformed.{AreDistinct}
use Rattle.aig_core.proofs.checks.distinct.are_distinct.Given as goal

abbrev pub invariant-loop-at : goal.invariant-loop-at
invariant-loop-at l = (k : ℕ) → k < l.at → AreDistinct (slice_index_or l.parts k [])
