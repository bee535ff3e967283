use Rattle.std.proofs.Common.{◌≡◌, ◌↔◌, ◌+◌, drop}
use Rattle.aig_checked.specs.Parts.Numbered.{AreNumbered}
use Rattle.aig_checked.proofs.ordered.are_in_order.Given as goal

abbrev pub invariant-loop-item : goal.invariant-loop-item
invariant-loop-item g l = record {
  place : l.variable ≡ l.fn.first + l.item-index;
  left : AreNumbered g.T.Numbered.is_right l.variable (drop l.item-index l.items)
      ↔ AreNumbered g.T.Numbered.is_right l.fn.first l.items;
}
