use Rattle.std.proofs.Common.{◌≡◌, ◌≢◌, ◌<◌, ◌≤◌, ◌∙◌, ⊎_elim, List, ℕ, ap, arith, length, sym}
use Rattle.std.specs.Prelude.{slice_index}
use Rattle.std.proofs.lemmas.Bool.{cases_lt}
use Rattle.aig_refute.specs.declared.words.TheConstants.{END}
use Rattle.aig_refute.proofs.Rearranged.{rearranged_both}
use Rattle.aig_refute.proofs.moving.put_behind.Goals as goal

pub loop-i-preserved : goal.loop-i-preserved
loop-i-preserved c =
    let words : List ℕ = c.loop-i.words in
    let inside : c.loop-i.j < length words = omega arith in
    let here : slice_index words c.loop-i.j ≢ END = λ h. c.if-words-j.true h in (
      omega arith,
      omega arith,
      λ m low high.
          ⊎_elim (λ (l : m < c.loop-i.j). c.swap.ensures.live m (c.loop-i.invariant.2 m low l))
          (λ (g : c.loop-i.j ≤ m).
          let same : m ≡ c.loop-i.j = omega arith in
          c.swap.ensures.live m (λ h. here (sym (ap (slice_index words) same) ∙ h)))
          (cases_lt m c.loop-i.j),
      rearranged_both _ _ _ c.loop-i.invariant.3 c.swap.ensures,
    )
