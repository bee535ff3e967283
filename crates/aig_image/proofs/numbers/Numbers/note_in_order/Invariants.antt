use Rattle.std.proofs.Common.{◌≡◌, ◌+◌, ◌++◌, ◌<◌, ℕ, List, take}
use Rattle.std.specs.List.{AllByRecursion}
use Rattle.aig_circuit.specs.Wellformed.{IsKnown, operands}
use Rattle.aig_topo.proofs.Ordering.Ranked.{at, variables}
use Rattle.aig_image.specs.Parts.Numbers.{HaveNumbers}
use Rattle.aig_image.proofs.numbers.Numbers.note_in_order.Given as goal

abbrev pub invariant-loop-gate : goal.invariant-loop-gate
invariant-loop-gate l = record {
  count : l.self.noted ≡ l.fn.self.noted + l.gate-index;
  numbers : (before : List ℕ) → HaveNumbers l.fn.self before
      → HaveNumbers l.self (before ++ variables (take l.gate-index l.gates))
      × ((k : ℕ) → k < l.gate-index → AllByRecursion (IsKnown (before ++ variables (take k l.gates)))
      (operands (at l.gates k)));
}
