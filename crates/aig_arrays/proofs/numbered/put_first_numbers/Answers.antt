use Rattle.std.proofs.Common.{◌+◌, ◌∙◌, List, ℕ, ap, arith, set, sym}
use Rattle.std.specs.List.{range_with_len}
use Rattle.std.proofs.lemmas.List.FromFn.{length-range_with_len}
use Rattle.aig_checked.proofs.Numbered.{range_more}
use Rattle.aig_arrays.specs.Parts.Placed.{placed}
use Rattle.aig_arrays.proofs.Placing.{placed_more}
use Rattle.aig_arrays.proofs.numbered.put_first_numbers.Goals as goal

pub loop-at-preserved : goal.loop-at-preserved
loop-at-preserved c =
    let at = c.loop-at.at in
    let old = c.args.numbers.now in
    ap (λ (ns : List ℕ). set ns at (1 + at)) c.loop-at.invariant
    ∙ placed_more 0 (range_with_len 1 at) (1 + at) at old (omega (arith, length-range_with_len 1 at))
    ∙ ap (λ (ns : List ℕ). placed 0 ns old) (sym (range_more 1 at))
