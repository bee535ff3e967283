use Rattle.std.proofs.Common.{◌≡◌, ◌+◌, ◌-◌, ◌++◌, ◌∙◌, List, [], ℕ, ap, arith, map, take, length-take-le}
use borrow.Rule.Slice.PartMut.{put_mid}
use Rattle.aig_io.specs.Digits.{last_digits}
use Rattle.aig_io.proofs.LeadingDigits.{eight_bytes, text_stands}
use Rattle.aig_io.proofs.digits.write_eight_digits.Goals as goal

pub returns-clause-text : goal.returns-clause-text
returns-clause-text c =
    let n = c.args.number in
    let at = c.args.at in
    let bytes = c.args.bytes.now in
    let text = map (λ d. 48 + d) (last_digits 8 n) in
    let written : c.copy_from_slice.new.self ≡ text ++ [] =
    c.copy_from_slice.ensures.after ∙ c.to_le_bytes.ensures ∙ eight_bytes n _ c.eight_digits-text.ensures in
    ap (λ (text : List ℕ). take (at + 8) (put_mid at (at + 8 - at) bytes text)) written
    ∙ text_stands at (at + 8) (take at bytes) text [] _ (length-take-le at bytes (omega arith)) (omega arith)
