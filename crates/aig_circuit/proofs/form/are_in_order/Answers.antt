use Rattle.aig_circuit.proofs.Checking.{rising_apart}
use Rattle.aig_circuit.proofs.form.are_in_order.Goals as goal

pub returns-clause-apart : goal.returns-clause-apart
returns-clause-apart c =
    λ _. rising_apart 0 c.args.symbols.now (c.loop-symbol.invariant.0 (rw c.in-None.ensures.steps.0 tt))
