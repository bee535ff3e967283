use Rattle.std.proofs.Common.{◌≡◌, ◌++◌, map, take, true}
use Rattle.std.specs.List.{AllByRecursion}
use Rattle.aig_image.specs.Parts.Ranked.{rank_label, HasRank}
use Rattle.aig_image.proofs.ranked.VariableRanks.add_ranks.Given as goal

abbrev pub invariant-loop-item : goal.invariant-loop-item
invariant-loop-item g l = record {
  ranks : l.ranks.items ≡ l.fn.ranks.items
      ++ map (λ x. rank_label l.self.ranks (g.T.Defines.variable x)) (take l.item-index l.items);
  all : l.all ≡ true
      → AllByRecursion (λ x. HasRank l.self.ranks (g.T.Defines.variable x)) (take l.item-index l.items);
}
