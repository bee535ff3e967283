use Rattle.std.proofs.Common.{◌≡◌, Some, map, take}
use Rattle.aig_step.specs.Stimulus.{values_of}
use Rattle.aig_lasso.specs.Runs.{value_held}
use Rattle.aig_lasso.proofs.held.are_characters.Given as goal

abbrev pub invariant-loop-character : goal.invariant-loop-character
invariant-loop-character l =
    values_of (take l.character-index l.text) ≡ Some (map value_held (take l.character-index l.text))
