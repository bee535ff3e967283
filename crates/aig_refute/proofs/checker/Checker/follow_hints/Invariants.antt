use Rattle.aig_refute.specs.Agree.{Grows}
use Rattle.aig_refute.proofs.checker.Checker.follow_hints.Given as goal

abbrev pub invariant-loop-k : goal.invariant-loop-k
invariant-loop-k l = Grows l.initial.self.propagation.kernel l.self.propagation.kernel
