use Rattle.std.proofs.Common.{◌++◌, map, take}
use Rattle.aig_circuit.specs.declared.circuit.Gate.{Gate}
use Rattle.aig_cone.specs.Parts.Search.{HasPlaces, latch_variables}
use Rattle.aig_cone.proofs.places.place_gates.Given as goal

abbrev pub invariant-loop-at : goal.invariant-loop-at
invariant-loop-at l =
    HasPlaces (latch_variables l.circuit ++ map (λ (g : Gate). g.var) (take l.at l.gates)) l.places
