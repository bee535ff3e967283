use Rattle.std.proofs.Common.{◌≡◌, ◌+◌, ◌-◌, ◌++◌, ◌∙◌, rules, arith, take, ap, decimal, replicate, length-take-le}
use borrow.Rule.Slice.PartMut.{put_mid}
use Rattle.std.proofs.lemmas.Fmt.{decimal_nonempty}
use Rattle.aig_io.proofs.LeadingDigits.{text_bytes, text_stands}
use Rattle.aig_io.proofs.digits.write_short_number.Goals as goal

pub overflow_shr-text : goal.overflow_shr-text
overflow_shr-text c = search (rules, decimal_nonempty)

pub returns-clause-text : goal.returns-clause-text
returns-clause-text c =
    let n = c.args.number in
    let at = c.args.at in
    let bytes = c.args.bytes.now in
    let zeros = c.zeros_before-zeros.result in
    let long = c.zeros_before-zeros.ensures n c.requires.low c.eight_digits-digits.ensures in
    let written : c.copy_from_slice.new.self ≡ decimal n ++ replicate zeros 0 =
    c.copy_from_slice.ensures.after ∙ c.to_le_bytes.ensures
    ∙ text_bytes n _ _ c.requires.low c.eight_digits-digits.ensures long in
    ap (λ text. take (at + 8 - zeros) (put_mid at (at + 8 - at) bytes text)) written
    ∙ text_stands at (at + 8 - zeros) (take at bytes) (decimal n) (replicate zeros 0) _
    (length-take-le at bytes (omega arith)) (omega (arith, long))
