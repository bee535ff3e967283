use Rattle.aig_refute.specs.Agree.{Grows}
use Rattle.aig_refute.proofs.propagation.Propagation.pass.Given as goal

abbrev pub invariant-loop-at : goal.invariant-loop-at
invariant-loop-at l = Grows l.initial.self.kernel l.self.kernel
