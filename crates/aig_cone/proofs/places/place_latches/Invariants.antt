use Rattle.std.proofs.Common.{map, take}
use Rattle.aig_circuit.specs.declared.circuit.Latch.{Latch}
use Rattle.aig_cone.specs.Parts.Search.{HasPlaces}
use Rattle.aig_cone.proofs.places.place_latches.Given as goal

abbrev pub invariant-loop-at : goal.invariant-loop-at
invariant-loop-at l = HasPlaces (map (λ (d : Latch). d.var) (take l.at l.latches)) l.places
