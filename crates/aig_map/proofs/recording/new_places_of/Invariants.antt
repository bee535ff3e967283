use Rattle.std.proofs.Common.{◌≡◌, map, take}
use Rattle.aig_map.specs.Parts.NewPlace.{new_place_of}
use Rattle.aig_map.proofs.recording.new_places_of.Given as goal

abbrev pub invariant-loop-gate : goal.invariant-loop-gate
invariant-loop-gate l = l.found.items ≡ map (new_place_of l.first) (take l.gate-index l.gates)
