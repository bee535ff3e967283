use Rattle.std.proofs.Common.{◌∙◌, arith, refl}
use Rattle.core.proofs.dec2flt.Eight.{eight_at, word_at}
use Rattle.aig_rows.proofs.Canonical.{short_number_is}
use Rattle.aig_rows.proofs.number.short_at.Goals as goal

pub returns-clause-number : goal.returns-clause-number
returns-clause-number c =
    let bytes = c.args.bytes.now in
    short_number_is bytes c.split_at.result.1.now c.args.end c.in_ok-value.value _ (λ e. absurd (omega arith))
    c.requires.few c.requires.within
    (c.in_ok-value.ensures _ (eight_at bytes 0 (λ k. (c.type_inv.bytes k).fits) (omega arith))
    (c.first_word.ensures ∙ word_at bytes 0 (omega arith)))
    refl c.split_at.ensures.back
