use Rattle.std.proofs.Common.{◌≡◌, ◌*◌, length, map, take}
use Rattle.aig_circuit.specs.declared.circuit.Latch.{Latch}
use Rattle.aig_array_steps.specs.Parts.Values.{literal_byte}
use Rattle.aig_array_steps.specs.Parts.Words.{latches_in}
use Rattle.aig_array_steps.proofs.evaluate.show_next.Given as goal

abbrev pub invariant-loop-i : goal.invariant-loop-i
invariant-loop-i l = record {
  done : take l.i l.shown
      ≡ map (λ (k : Latch). literal_byte l.table k.next) (take l.i (latches_in l.latches));
  long : 3 * length l.shown ≡ length l.latches;
}
