use Rattle.std.specs.Prelude.{◌≡◌, map, take}
use Rattle.aig_circuit.specs.declared.circuit.Latch.{Latch}
use Rattle.aig_circuit.specs.Literal.{literal_of}
use Rattle.aig_invariant.proofs.growth.Latches.new.Given as goal

abbrev pub invariant-loop-latch : goal.invariant-loop-latch
invariant-loop-latch l = record {
  state : l.state.items ≡ map (λ (x : Latch). literal_of x.var) (take l.latch-index l.latches);
  next : l.next.items ≡ map (λ (x : Latch). x.next) (take l.latch-index l.latches);
}
