use Rattle.std.proofs.Common.{◌≡◌, ◌≤◌, take}
use Rattle.std.specs.List.{count_by}
use Rattle.aig_circuit.specs.declared.circuit.Latch.{Latch}
use Rattle.aig_info.specs.Info.{is_uninitialised}
use Rattle.aig_info.proofs.counts.count_uninitialised.Given as goal

abbrev pub invariant-loop-latch : goal.invariant-loop-latch
invariant-loop-latch l = record {
  counted : l.count ≡ count_by (λ (d : Latch). is_uninitialised d.reset) (take l.latch-index l.latches);
  few : l.count ≤ l.latch-index;
}
