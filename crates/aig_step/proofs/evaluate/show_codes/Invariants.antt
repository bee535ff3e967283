use Rattle.std.specs.Prelude.{◌≡◌, length, take}
use Rattle.aig_step.proofs.evaluate.show_codes.Given as goal

abbrev pub invariant-loop-i : goal.invariant-loop-i
invariant-loop-i l = (take l.i l.shown ≡ take l.i l.codes) × (length l.shown ≡ length l.codes)
