use Rattle.std.proofs.Common.{◌≡◌, ◌+◌, ◌/◌, ◌<◌, ◌^◌, arith, ◌∙◌, ap}
use Rattle.std.specs.Int.Bits.{bit_or}
use Rattle.std.specs.Int.Count.{count_trailing_zeros}
use Rattle.std.proofs.lemmas.Nat.{or_comm, or_shifted}
use Rattle.aig_io.proofs.LeadingDigits.{padded}
use Rattle.aig_io.proofs.digits.zeros_before.Goals as goal

pub returns : goal.returns
returns c = λ n low e.
    let p = padded n low in
    let small : c.args.digits < 2 ^ 60 = omega arith in
    let sum : bit_or c.args.digits 0x1000_0000_0000_0000 ≡ c.args.digits + 2 ^ 60 =
    or_comm c.args.digits _ ∙ or_shifted 1 60 c.args.digits small ∙ omega arith in
    omega (arith, ap (λ w. count_trailing_zeros 64 w / 8) (sum ∙ ap (λ w. w + 2 ^ 60) e), p.1.trailing, p.1.long)
