use Rattle.std.proofs.Common.{◌≡◌, map, take}
use Rattle.aig_map.specs.Parts.NewPlace.{new_place_by}
use Rattle.aig_map.proofs.recording.new_places_by.Given as goal

abbrev pub invariant-loop-gate : goal.invariant-loop-gate
invariant-loop-gate g l =
    l.found.items ≡ map (new_place_by (g.L.Labels.label l.labels) l.first) (take l.gate-index l.gates)
