use Rattle.std.proofs.Common.{◌≡◌, ◌-◌, ◌^◌, ◌<◌, ◌≤◌, ℕ, List, arith, decimal, drop, length, take}
use Rattle.std.proofs.lemmas.Fmt.{length-decimal-le}
use Rattle.std.proofs.lemmas.List.{length-drop, take_all}
use Rattle.aig_wave.proofs.signal_code.write_decimal.Goals as goal

short_digits : (room : List ℕ) (from n : ℕ) → from ≤ 64 → length room ≡ 64 → drop from room ≡ decimal n → n < 2 ^ 32
    → length (take (64 - from) (drop from room)) ≤ 10
short_digits room from n within long is low =
    let left : length (drop from room) ≡ length room - from = length-drop from room in
    let few = length-decimal-le 10 n (omega arith) (omega arith) (omega arith) in
    let all : take (64 - from) (drop from room) ≡ drop from room =
    take_all (64 - from) (drop from room) (omega arith) in
    rw all (rw is few)

pub write_text-requires : goal.write_text-requires
write_text-requires c =
    let few = short_digits c.write_digits-from.new.room c.write_digits-from.result c.args.number
    c.write_digits-from.ensures.bound c.write_digits-from.array_long
    (rw c.from.ensures at c.write_digits-from.ensures.value) (omega arith) in
    omega (arith, few)

pub returns-clause-within : goal.returns-clause-within
returns-clause-within c =
    let few = short_digits c.write_digits-from.new.room c.write_digits-from.result c.args.number
    c.write_digits-from.ensures.bound c.write_digits-from.array_long
    (rw c.from.ensures at c.write_digits-from.ensures.value) (omega arith) in
    omega (arith, few, c.write_text.ensures.end)
