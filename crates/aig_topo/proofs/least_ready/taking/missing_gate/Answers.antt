use Rattle.std.proofs.Common.{ltb-true, rules}
use Rattle.aig_topo.proofs.Ordering.LeastReady.{some_left, second_enough}
use Rattle.aig_topo.proofs.least_ready.taking.missing_gate.Goals as goal

pub returns-then-count_if_taken-clause-missing : goal.returns-then-count_if_taken-clause-missing
returns-then-count_if_taken-clause-missing c = search (rules, some_left, ltb-true)

pub returns-then-count_if_taken-2-clause-missing : goal.returns-then-count_if_taken-2-clause-missing
returns-then-count_if_taken-2-clause-missing c = search (rules, some_left, ltb-true)

pub returns-then-count_if_taken-2-clause-enough : goal.returns-then-count_if_taken-2-clause-enough
returns-then-count_if_taken-2-clause-enough c = search (rules, second_enough)
