use Rattle.std.proofs.Common.{◌-◌, ◌*◌, ◌%◌, ◌^◌, ap, arith, eqb, eqb→eq}
use Rattle.core.proofs.dec2flt.DigitsLemmas.{every_below}
use Rattle.aig_rows.proofs.word.keep_first.Goals as goal

pub returns : goal.returns
returns c =
    let count = c.args.count in
    let same = eqb→eq _ _ (every_below (λ k. eqb (2 ^ (64 - 8 * k)) (256 ^ (8 - k))) 9 tt count (omega arith)) in
    ap (λ m. c.args.word * m % 2 ^ 64) same
