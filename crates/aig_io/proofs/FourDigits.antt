-- The table of four digits.
use Rattle.std.proofs.Common.{◌≡◌, ◌+◌, ◌*◌, ◌/◌, ◌%◌, ◌<◌, ◌∷◌, ◌&&◌, ◌∙◌, ℕ, zero, suc, List, [], Bool, true, T, eqb}
use Rattle.std.proofs.Common.{eqb→eq, get_or, length, arith, ap}
use lib.Ieee.Fits.{and_l, and_r}
use Rattle.std.specs.Simd.Lanes.{number_l}
use Rattle.aig_io.specs.Digits.{last_digits}
use Rattle.aig_io.specs.declared.digits.TheConstants.{FOUR_DIGITS}

-- the four digits of a number below 10 ^ 4 as a word
abbrev word : ℕ → ℕ
word n = n / 1000 + 256 * (n / 100 % 10 + 256 * (n / 10 % 10 + 256 * (n % 10)))

-- these are the words of the numbers from this one on
abbrev are_words : ℕ → List ℕ → Bool
are_words n [] = true
are_words n (x ∷ xs) = eqb x (word n) && are_words (suc n) xs

word_at : (n i : ℕ) (xs : List ℕ) → T (are_words n xs) → i < length xs → get_or xs i 0 ≡ word (n + i)
word_at n i [] are low = absurd (omega arith)
word_at n zero (x ∷ xs) are low =
    let same : n ≡ n + 0 = omega arith in
    eqb→eq _ _ (and_l _ (are_words (suc n) xs) are) ∙ ap word same
word_at n (suc i) (x ∷ xs) are low =
    let same : suc n + i ≡ n + suc i = omega arith in
    word_at (suc n) i xs (and_r _ (are_words (suc n) xs) are) (omega arith) ∙ ap word same

pub digits_at : (n : ℕ) → n < 10_000 → get_or FOUR_DIGITS n 0 ≡ number_l 256 (last_digits 4 n)
digits_at n low = word_at 0 n FOUR_DIGITS tt low ∙ omega arith
