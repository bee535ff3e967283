use Rattle.std.proofs.Common.{◌≡◌, Some, length, take}
use Rattle.aig_step.specs.Stimulus.{values_of}
use Rattle.aig_step.proofs.evaluate.read_codes.Given as goal

abbrev pub invariant-loop-i : goal.invariant-loop-i
invariant-loop-i l = (values_of (take l.i l.text) ≡ Some (take l.i l.codes)) × (length l.codes ≡ length l.text)
