use Rattle.std.proofs.Common.{◌≡◌, [], drop, take}
use Rattle.aig_pairing.specs.NameFaults.{name_fault}
use Rattle.aig_pairing.specs.Parts.Places.{AreAt}
use Rattle.aig_pairing.proofs.index.places_of.Given as goal

-- the names so far are in the tree, and the first fault is still to come
abbrev pub invariant-loop-at : goal.invariant-loop-at
invariant-loop-at l = record {
  places : AreAt (take l.at l.names) l.places;
  left : name_fault l.paired (take l.at l.names) (drop l.at l.names) ≡ name_fault l.paired [] l.names;
}
