use Rattle.std.specs.Prelude.{◌≡◌, ◌+◌, ◌≤◌, drop, map}
use Rattle.aig_circuit.specs.declared.circuit.Latch.{Latch}
use Rattle.aig_unroll.specs.Unrolled.{uninitialised}
use Rattle.aig_replay.proofs.found.count_uninitialised.Given as goal

abbrev pub invariant-loop-latch : goal.invariant-loop-latch
invariant-loop-latch l = record {
  counted : l.count + uninitialised (map (λ (k : Latch). k.reset) (drop l.latch-index l.latches))
      ≡ uninitialised (map (λ (k : Latch). k.reset) l.latches);
  bound : l.count ≤ l.latch-index;
}
