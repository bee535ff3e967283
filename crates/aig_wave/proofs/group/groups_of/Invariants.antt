use Rattle.std.proofs.Common.{List, length, ◌++◌}
use Rattle.aig_wave.specs.declared.group.Group.{Group}
use Rattle.aig_wave.specs.Parts.Groups.{AreSignalGroups}
use Rattle.aig_wave.proofs.group.groups_of.Given as goal

-- the groups of the signals that are left are the last of all
abbrev pub invariant-loop-rest : goal.invariant-loop-rest
invariant-loop-rest l =
    (gs : List Group) → AreSignalGroups gs l.rest → AreSignalGroups (l.groups.items ++ gs) l.signal_codes

abbrev pub decreases-loop-rest : goal.decreases-loop-rest
decreases-loop-rest l = length l.rest
