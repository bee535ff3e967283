use Rattle.std.specs.Prelude.{◌≡◌, take, true}
use Rattle.aig_lasso.specs.Parts.Searching.{are_noted}
use Rattle.aig_lasso.proofs.search.are_noted.Given as goal

abbrev pub invariant-loop-is_met : goal.invariant-loop-is_met
invariant-loop-is_met l = are_noted (take l.is_met-index l.notes) ≡ true
