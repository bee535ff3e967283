use Rattle.std.specs.Prelude.{◌≡◌, take}
use Rattle.aig_runs.proofs.stimuli.group_of.Given as goal

abbrev pub invariant-loop-i : goal.invariant-loop-i
invariant-loop-i l = l.vectors.items ≡ take l.i l.runs
