use Rattle.std.specs.Prelude.{◌≡◌, ◌+◌, ◌<◌, length, take}
use Rattle.std.specs.List.{All}
use Rattle.aig_places.specs.Places.{ArePlaced}
use Rattle.aig_places.proofs.placing.Placing.place_gates.Given as goal

abbrev pub invariant-loop-pair : goal.invariant-loop-pair
invariant-loop-pair l = record {
  variable : l.variable ≡ l.first + l.pair-index;
  places : length l.self.places.items ≡ length l.fn.self.places.items;
  before : All (λ holder. holder < l.variable) l.self.holders.items;
  placed : ArePlaced l.first (take l.pair-index l.pairs) l.fn.self.holders.items l.self.holders.items l.gates.items;
}
