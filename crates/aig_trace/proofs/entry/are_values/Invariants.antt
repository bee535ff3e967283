use Rattle.std.proofs.Common.{◌≡◌, is_some, take}
use Rattle.aig_step.specs.Stimulus.{values_of}
use Rattle.aig_trace.proofs.entry.are_values.Given as goal

abbrev pub invariant-loop-character : goal.invariant-loop-character
invariant-loop-character l = l.all ≡ is_some (values_of (take l.character-index l.text))
