use Rattle.std.specs.Prelude.{◌≡◌, ◌+◌, ◌++◌, ◌≤◌, drop, length, map, take}
use Rattle.aig_circuit.specs.declared.circuit.Latch.{Latch}
use Rattle.aig_unroll.specs.Unrolled.{first_latches}
use Rattle.aig_unroll.proofs.substitution.put_first_latches.Given as goal

abbrev pub invariant-loop-i : goal.invariant-loop-i
invariant-loop-i l = record {
  written : take l.i l.out ++ first_latches l.variable (map (λ (k : Latch). k.reset) (drop l.i l.latches))
      ≡ first_latches 1 (map (λ (k : Latch). k.reset) l.latches);
  room : length l.out ≡ length l.latches;
  small : l.variable ≤ 1 + l.i;
}
