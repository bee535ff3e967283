use Rattle.std.proofs.Common.{◌≡◌, ◌+◌, ◌≤◌, ◌++◌, drop, length, map, take}
use Rattle.aig_circuit.specs.declared.circuit.Latch.{Latch}
use Rattle.aig_unroll.specs.Unrolled.{uninitialised}
use Rattle.aig_replay.specs.Starting.{first_characters}
use Rattle.aig_replay.proofs.start.put_first_state.Given as goal

abbrev pub invariant-loop-place : goal.invariant-loop-place
invariant-loop-place l = record {
  room : length l.state ≡ length l.latches;
  few : l.used ≤ l.place;
  used : l.used + uninitialised (drop l.place (map (λ (k : Latch). k.reset) l.latches))
      ≡ uninitialised (map (λ (k : Latch). k.reset) l.latches);
  put : take l.place l.state ++ first_characters l.bits l.used (drop l.place (map (λ (k : Latch). k.reset) l.latches))
      ≡ first_characters l.bits 0 (map (λ (k : Latch). k.reset) l.latches);
}
