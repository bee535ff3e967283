use Rattle.std.proofs.Common.{◌≤◌, ◌∙◌, arith, refl, eq-zero-or-pos, inl, inr}
use Rattle.std.specs.Float.Numeral.{digits_len}
use Rattle.core.proofs.dec2flt.Eight.{lanes_are, all_digits, first_other, shifted_is}
use Rattle.aig_rows.proofs.word.digits_of_word.Goals as goal

pub returns : goal.returns
returns c bytes eight is =
    let flags = c.flags_from_ten.result in
    let many : c.args.count ≤ digits_len bytes =
    elim (eq-zero-or-pos flags) [
      | inl none ↦ omega (arith, all_digits bytes _ eight is flags c.flags_from_ten.ensures none)
      | inr some ↦ omega (arith, (first_other bytes _ eight is flags c.flags_from_ten.ensures some).0)
    ] in
    let s =
    shifted_is bytes c.args.count c.keep_first.result eight many (omega arith)
    (c.keep_first.ensures ∙ rw (lanes_are bytes _ eight is) refl) in
    (many, c.value_of_eight.ensures s.0 s.1 s.2 ∙ s.3)
