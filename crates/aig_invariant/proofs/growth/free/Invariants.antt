use Rattle.std.specs.Prelude.{◌≡◌, ◌++◌, drop, map, take}
use Rattle.aig_invariant.specs.Invariant.{freed}
use Rattle.aig_invariant.proofs.growth.free.Given as goal

abbrev pub invariant-loop-i : goal.invariant-loop-i
invariant-loop-i l = l.latches ≡ map freed (take l.i l.fn.latches) ++ drop l.i l.fn.latches
