use Rattle.std.proofs.Common.{◌≡◌, ◌+◌, drop, map}
use Rattle.aig_image.specs.Parts.Numbers.{number_of}
use Rattle.aig_arrays.specs.Parts.Placed.{placed}
use Rattle.aig_arrays.proofs.numbered.put_numbers_of.Given as goal

abbrev pub invariant-loop-item : goal.invariant-loop-item
invariant-loop-item g l = record {
  numbers : placed l.end (map (λ x. number_of l.new (g.T.Defines.variable x)) (drop l.item-index l.items)) l.numbers
      ≡ placed l.at (map (λ x. number_of l.new (g.T.Defines.variable x)) l.items) l.fn.numbers;
  end : l.end ≡ l.at + l.item-index;
}
