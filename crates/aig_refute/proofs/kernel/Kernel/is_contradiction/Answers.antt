use Rattle.aig_refute.specs.Agree.{known_by}
use Rattle.aig_refute.proofs.kernel.Kernel.is_contradiction.Goals as goal

pub returns-clause-rests : goal.returns-clause-rests
returns-clause-rests c = λ is. record {
  known = known_by c.args.self.now;
  refuted = c.refutes.ensures c.if-not-refutes.false;
  consistent = c.is_consistent.ensures.yes c.if-not-is_consistent.false;
  at_rest = c.requires;
}
