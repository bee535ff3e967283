use Rattle.std.proofs.Common.{◌≡◌, map, take}
use Rattle.aig_map.proofs.recording.variables_of.Given as goal

abbrev pub invariant-loop-item : goal.invariant-loop-item
invariant-loop-item g l = l.found.items ≡ map g.T.Defines.variable (take l.item-index l.items)
