use Rattle.std.specs.Prelude.{◌≡◌, drop}
use Rattle.aig_lasso.specs.Parts.Searching.{are_same_values}
use Rattle.aig_lasso.proofs.search.are_same.Given as goal

abbrev pub invariant-loop-place : goal.invariant-loop-place
invariant-loop-place l = are_same_values (drop l.place l.left) (drop l.place l.right) ≡ are_same_values l.left l.right
