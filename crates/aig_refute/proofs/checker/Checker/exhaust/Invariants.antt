use Rattle.aig_refute.specs.Agree.{Grows}
use Rattle.aig_refute.proofs.checker.Checker.exhaust.Given as goal

abbrev pub invariant-loop-turn : goal.invariant-loop-turn
invariant-loop-turn l = Grows l.initial.self.propagation.kernel l.self.propagation.kernel
