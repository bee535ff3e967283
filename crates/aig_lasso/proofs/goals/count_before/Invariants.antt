use Rattle.std.specs.Prelude.{◌≡◌, take}
use Rattle.std.specs.List.{sum}
use Rattle.aig_lasso.proofs.goals.count_before.Given as goal

abbrev pub invariant-loop-size : goal.invariant-loop-size
invariant-loop-size l = l.before ≡ sum (take l.size-index l.counted)
