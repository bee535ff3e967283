use Rattle.std.proofs.Common.{rules}
use Rattle.aig_circuit.proofs.Alike.{told}
use Rattle.aig_checked.proofs.checked.same.Goals as goal

pub returns-then-eq-4 : goal.returns-then-eq-4
returns-then-eq-4 c =
    told c.eq-then-eq-4.result c.circuit-first.result.now c.circuit-second.result.now _ _ c.circuit-first.ensures.value
    c.circuit-second.ensures.value (search rules)

pub returns-else-eq-4 : goal.returns-else-eq-4
returns-else-eq-4 c =
    told c.if-eq-3.value c.circuit-first.result.now c.circuit-second.result.now _ _ c.circuit-first.ensures.value
    c.circuit-second.ensures.value (search rules)
