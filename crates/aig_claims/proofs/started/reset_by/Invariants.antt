use Rattle.std.specs.Prelude.{◌≡◌, take}
use Rattle.aig_claims.specs.RunDump.{with_resets}
use Rattle.aig_claims.proofs.Starting.{resets_by}
use Rattle.aig_claims.proofs.started.reset_by.Given as goal

abbrev pub invariant-loop-i : goal.invariant-loop-i
invariant-loop-i l = l.latches ≡ with_resets (resets_by (take l.i l.text)) l.fn.latches
