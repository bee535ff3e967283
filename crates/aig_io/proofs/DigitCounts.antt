-- How many digits a number has.
use Rattle.std.proofs.Common.{◌≡◌, ◌+◌, ◌/◌, ◌%◌, ◌<◌, ◌≤◌, ◌^◌, ◌∷◌, ◌∙◌, rules, ℕ, [], length, arith, ap}
use Rattle.std.proofs.Common.{zero, suc, length-append, decimal}
use Rattle.std.proofs.Math.Nat.{pow-suc}
use Rattle.std.proofs.lemmas.Fmt.{decimal_digit, decimal_step}

length_step : (n : ℕ) → 10 ≤ n → n < 2 ^ 64 → length (decimal n) ≡ length (decimal (n / 10)) + 1
length_step n high small = ap length (decimal_step n high small) ∙ length-append (decimal (n / 10)) ((48 + n % 10) ∷ [])

longer : (n k : ℕ) → 10 ≤ n → n < 2 ^ 64 → length (decimal (n / 10)) ≡ k → length (decimal n) ≡ k + 1
longer n k high small before = length_step n high small ∙ ap (λ m. m + 1) before

pub length_1 : (n : ℕ) → n < 10 → length (decimal n) ≡ 1
length_1 n low = ap length (decimal_digit n low)

some : (k : ℕ) → 0 < 10 ^ k
some zero = omega arith
some (suc k) = omega (arith, pow-suc 10 k, some k)

-- so many digits, from two on
pub spans : (k n : ℕ) → 10 ^ suc k ≤ n → n < 10 ^ suc (suc k) → n < 2 ^ 64 → length (decimal n) ≡ k + 2
spans zero n high low small = longer n 1 (omega arith) small (length_1 (n / 10) (omega arith))
spans (suc k) n high low small =
    let tens = pow-suc 10 (suc (suc k)) in
    let ten = pow-suc 10 (suc k) in
    let one = pow-suc 10 k in
    let before = spans k (n / 10) (omega arith) (omega arith) (omega arith) in
    longer n (k + 2) (omega (arith, some k)) small before ∙ omega arith

-- without its last five digits
five_less : (n : ℕ) → 100000 ≤ n → n < 2 ^ 64 → length (decimal n) ≡ length (decimal (n / 100000)) + 5
five_less n high small = search (rules, length_step)

-- without its last ten digits
pub ten_less : (n : ℕ) → 10000000000 ≤ n → n < 2 ^ 64 → length (decimal n) ≡ length (decimal (n / 10000000000)) + 10
ten_less n high small = search (rules, five_less)
