use Rattle.std.proofs.Common.{◌+◌, ◌++◌, ◌∷◌, ◌∙◌, [], ap, sym}
use Rattle.aig_checked.proofs.Numbered.{range_more}
use Rattle.aig_unroll.proofs.unrolling.first_variables.Goals as goal

pub loop-before-preserved : goal.loop-before-preserved
loop-before-preserved c =
    let before = c.loop-before.before in
    c.in_ok-push.ensures.items ∙ ap (λ vs. vs ++ (1 + before) ∷ []) c.loop-before.invariant ∙ sym (range_more 1 before)
