use Rattle.aig_core.proofs.Checking.Reported.{redefined_exactly, undefined_exactly, cyclic_exactly}
use Rattle.aig_core.proofs.laws.faults_are_reported_exactly.Goals as goal

pub returns : goal.returns
returns c = record { redefined = redefined_exactly; undefined = undefined_exactly; cyclic = cyclic_exactly }
