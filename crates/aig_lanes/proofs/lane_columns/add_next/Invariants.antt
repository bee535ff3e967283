use Rattle.std.specs.Prelude.{◌≡◌, ◌++◌, map, take}
use Rattle.aig_circuit.specs.declared.circuit.Latch.{Latch}
use Rattle.aig_lanes.proofs.lane_columns.add_next.Given as goal

abbrev pub invariant-loop-latch : goal.invariant-loop-latch
invariant-loop-latch l =
    l.literals.items ≡ l.fn.literals.items ++ map (λ (k : Latch). k.next) (take l.latch-index l.latches)
