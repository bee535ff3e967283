use Rattle.std.proofs.Common.{◌≡◌, ◌++◌, map, take, drop}
use Rattle.aig_image.proofs.labelling.relabel_all.Given as goal

abbrev pub invariant-loop-at : goal.invariant-loop-at
invariant-loop-at g l =
    l.found.items ≡ map (g.T.NamesVariables.relabelled (g.L.Labels.label l.labels))
    (take l.at l.fn.items) ++ drop l.at l.fn.items
