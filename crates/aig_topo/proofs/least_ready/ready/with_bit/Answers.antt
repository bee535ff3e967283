use Rattle.std.proofs.Common.{◌<◌, ◌*◌, ◌%◌, ◌^◌, rules, ℕ, w64}
use Rattle.std.specs.Int.Bits.{bit_or}
use Rattle.std.proofs.lemmas.Bool.{cases_lt}
use Rattle.std.proofs.lemmas.Nat.{and_le_l}
use Rattle.std.proofs.lemmas.Nat.Bits.{bit_at-zero, bit_at_set_same}
use Rattle.aig_topo.proofs.Ordering.Trees.{bit_set, bit_cleared}
use Rattle.aig_topo.proofs.least_ready.ready.with_bit.Goals as goal

some_set : (word k : ℕ) → k < 64 → 0 < bit_or word (1 * 2 ^ k % 18446744073709551616)
some_set word k within =
    let set = bit_at_set_same w64 word k within in search (rules, bit_at-zero, cases_lt)

pub returns-then-on : goal.returns-then-on
returns-then-on c = search (rules, bit_set, some_set)

pub returns-else-on : goal.returns-else-on
returns-else-on c = search (rules, bit_cleared, and_le_l)
