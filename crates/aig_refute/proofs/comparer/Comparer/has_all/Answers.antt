use Rattle.std.proofs.Common.{◌≡◌, ⊎_elim, false, true}
use Rattle.std.specs.Prelude.{slice_index_or}
use Rattle.aig_refute.specs.Kept.{HasLiteral}
use Rattle.aig_refute.proofs.Resting.{not_both}
use Rattle.aig_refute.proofs.comparer.Comparer.has_all.Goals as goal

pub returns : goal.returns
returns c = λ yes literal has.
    ⊎_elim
    (λ (old : slice_index_or c.unmark.new.marks literal false ≡ true).
    absurd (not_both _ (c.unmark.ensures.gone literal has) old))
    (λ (found : HasLiteral c.args.other.now literal). found)
    (c.mark_all.ensures literal (c.are_marked.ensures yes literal has))
