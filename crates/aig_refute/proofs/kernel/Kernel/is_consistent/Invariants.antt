use Rattle.std.proofs.Common.{◌≡◌, ◌<◌, ℕ, false}
use Rattle.std.specs.Prelude.{slice_index}
use Rattle.aig_circuit.specs.Literal.{negation_of}
use Rattle.aig_refute.specs.Agree.{known_by}
use Rattle.aig_refute.proofs.kernel.Kernel.is_consistent.Given as goal

abbrev pub invariant-loop-k : goal.invariant-loop-k
invariant-loop-k l = (m : ℕ) → m < l.k → known_by l.self (negation_of (slice_index l.self.trail.items m)) ≡ false
