use Rattle.std.proofs.Common.{◌≡◌, ◌↔◌, ◌+◌, drop}
use Rattle.aig_checked.specs.Parts.Numbered.{AreNumbered, IsNumberedGateOf}
use Rattle.aig_checked.proofs.ordered.are_gates_numbered.Given as goal

abbrev pub invariant-loop-gate : goal.invariant-loop-gate
invariant-loop-gate l = record {
  place : l.variable ≡ l.fn.first + l.gate-index;
  left : AreNumbered IsNumberedGateOf l.variable (drop l.gate-index l.gates)
      ↔ AreNumbered IsNumberedGateOf l.fn.first l.gates;
}
