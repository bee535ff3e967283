use Rattle.std.proofs.Common.{◌≡◌, drop}
use Rattle.aig_map.specs.Parts.Placed.{with_gates}
use Rattle.aig_map.proofs.undone.fill_places.Given as goal

abbrev pub invariant-loop-gate : goal.invariant-loop-gate
invariant-loop-gate l = with_gates l.placed (drop l.gate-index l.gates) ≡ with_gates l.fn.placed l.gates
