use Rattle.std.proofs.Common.{◌≡◌, ◌+◌, ◌++◌, ℕ, List, None, map, take}
use Rattle.std.specs.FinMap.{get}
use Rattle.aig_circuit.specs.Wellformed.{IsAmong}
use Rattle.aig_image.specs.Parts.Numbers.{HaveNumbers}
use Rattle.aig_image.proofs.numbers.Numbers.note_all.Given as goal

abbrev pub invariant-loop-item : goal.invariant-loop-item
invariant-loop-item g l = record {
  count : l.self.noted ≡ l.fn.self.noted + l.item-index;
  numbers : (variables : List ℕ) → HaveNumbers l.fn.self variables
      → HaveNumbers l.self (variables ++ map g.T.Defines.variable (take l.item-index l.items));
  none : (v : ℕ) → ¬ IsAmong v (map g.T.Defines.variable (take l.item-index l.items))
      → get l.fn.self.numbers v ≡ None → get l.self.numbers v ≡ None;
}
