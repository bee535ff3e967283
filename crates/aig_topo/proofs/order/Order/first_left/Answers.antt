use Rattle.std.proofs.Common.{◌<◌, rules, ⊎_elim}
use Rattle.std.proofs.lemmas.Bool.{cases_lt}
use Rattle.std.proofs.lemmas.List.{length-map}
use Rattle.aig_circuit.proofs.Checking.{among_decides}
use Rattle.aig_topo.proofs.order.Order.first_left.Goals as goal

pub returns-then-not-has-clause-left : goal.returns-then-not-has-clause-left
returns-then-not-has-clause-left c = search (rules, among_decides)

pub loop-gate-preserved : goal.loop-gate-preserved
loop-gate-preserved c = λ g below.
    ⊎_elim (λ (before : g < c.loop-gate.gate). c.loop-gate.invariant g before)
    (search (rules, among_decides))
    (cases_lt g c.loop-gate.gate)

pub returns-clause-none : goal.returns-clause-none
returns-clause-none c = λ g below.
    c.loop-gate.invariant g (search (rules, length-map))
