use Rattle.std.proofs.Common.{◌≡◌, map, take}
use Rattle.aig_circuit.specs.declared.circuit.Latch.{Latch}
use Rattle.aig_meaning.specs.Trace.{reset_value}
use Rattle.aig_step.specs.TraceText.{values_text}
use Rattle.aig_wave.proofs.layout.resets_of.Given as goal

abbrev pub invariant-loop-latch : goal.invariant-loop-latch
invariant-loop-latch l =
    l.resets.items ≡ values_text (map (λ (x : Latch). reset_value x.reset) (take l.latch-index l.circuit.latches))
