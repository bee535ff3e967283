use Rattle.std.proofs.Common.{ap, arith, length, sym}
use Rattle.std.proofs.lemmas.Bool.{false_from_ne_true}
use Rattle.aig_lasso.specs.Parts.Searching.{are_same_values}
use Rattle.aig_lasso.proofs.Starts.{values_same}
use Rattle.aig_lasso.proofs.search.are_same.Goals as goal

pub returns-then-left-right : goal.returns-then-left-right
returns-then-left-right c =
    let left = c.args.left.now in
    let right = c.args.right.now in
    sym (false_from_ne_true (are_same_values left right) (λ same.
    omega (arith, ap length (values_same left right same), c.if-left-right.true)))
