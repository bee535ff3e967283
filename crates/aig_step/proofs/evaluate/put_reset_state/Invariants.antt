use Rattle.std.specs.Prelude.{◌≡◌, length, take, map}
use Rattle.aig_circuit.specs.declared.circuit.Latch.{Latch}
use Rattle.aig_meaning.specs.Trace.{reset_value}
use Rattle.aig_step.proofs.evaluate.put_reset_state.Given as goal

abbrev pub invariant-loop-i : goal.invariant-loop-i
invariant-loop-i l =
    (take l.i l.state ≡ map (λ (k : Latch). reset_value k.reset) (take l.i l.latches))
    × (length l.state ≡ length l.latches)
