-- Planes: the bits of a lane.
use Rattle.std.proofs.Common.{◌≡◌, ◌*◌, ◌<◌, ◌∷◌, ◌∙◌, ◌/◌, ◌%◌, ℕ, zero, suc, List, []}
use Rattle.std.proofs.Common.{length, map, get_or, replicate, refl, sym, ap, arith, min, max}
use Rattle.std.specs.Int.{bit_at}
use Rattle.std.specs.Int.Bits.{bit_and, bit_or}
use Rattle.std.specs.Simd.Lanes.{zip2}
use Rattle.std.proofs.lemmas.List.Elements.{All-replicate}
use Rattle.std.proofs.lemmas.Nat.Bits.{bit_at_and, bit_at_ones, bit_at_or, bit_at-zero}
use Rattle.aig_circuit.specs.declared.value.Val.TheVariants.{X}
use Rattle.aig_places.specs.Lanes.{IsLane, IsPlane, bit_in, bits_of_values}

all_x : (n : ℕ) → bits_of_values (replicate n X) ≡ replicate (2 * n) 1
all_x zero = refl
all_x (suc n) =
    let twice : 2 * suc n ≡ suc (suc (2 * n)) = omega arith in
    ap (λ bs. 1 ∷ 1 ∷ bs) (all_x n) ∙ ap (λ m. replicate m 1) (sym twice)

map_replicate : (f : List ℕ → ℕ) (n : ℕ) (plane : List ℕ) → map f (replicate n plane) ≡ replicate n (f plane)
map_replicate f zero plane = refl
map_replicate f (suc n) plane = ap (λ bs. f plane ∷ bs) (map_replicate f n plane)

-- a table of planes that are set in a lane
pub table_of_x : (l n : ℕ) (plane : List ℕ) → IsPlane plane → bit_in l plane ≡ 1
    → IsLane l (replicate (2 * n) plane) (replicate n X)
table_of_x l n plane is_plane is = record {
  whole = All-replicate IsPlane (2 * n) plane is_plane;
  bits = map_replicate (bit_in l) (2 * n) plane ∙ ap (replicate (2 * n)) is ∙ sym (all_x n);
}

-- a word of a plane that was computed word by word
zip_at : (f : ℕ → ℕ → ℕ) → f 0 0 ≡ 0 → (p q : List ℕ) (i : ℕ) → length p ≡ length q
    → get_or (zip2 f p q) i 0 ≡ f (get_or p i 0) (get_or q i 0)
zip_at f none [] [] i same = sym none
zip_at f none [] (y ∷ ys) i same = absurd (omega (arith, same))
zip_at f none (x ∷ xs) [] i same = absurd (omega (arith, same))
zip_at f none (x ∷ xs) (y ∷ ys) zero same = refl
zip_at f none (x ∷ xs) (y ∷ ys) (suc i) same = zip_at f none xs ys i (omega (arith, same))

pub and_in : (l : ℕ) (p q : List ℕ) → length p ≡ length q
    → bit_in l (zip2 bit_and p q) ≡ min (bit_in l p) (bit_in l q)
and_in l p q same =
    ap (λ n. bit_at n (l % 64)) (zip_at bit_and refl p q (l / 64) same)
    ∙ bit_at_and (get_or p (l / 64) 0) (get_or q (l / 64) 0) (l % 64)

pub or_in : (l : ℕ) (p q : List ℕ) → length p ≡ length q
    → bit_in l (zip2 bit_or p q) ≡ max (bit_in l p) (bit_in l q)
or_in l p q same =
    ap (λ n. bit_at n (l % 64)) (zip_at bit_or refl p q (l / 64) same)
    ∙ bit_at_or (get_or p (l / 64) 0) (get_or q (l / 64) 0) (l % 64)

-- four words that are one
abbrev pub four : ℕ → List ℕ
four n = n ∷ n ∷ n ∷ n ∷ []

four_at : (n i : ℕ) → i < 4 → get_or (four n) i 0 ≡ n
four_at n zero below = refl
four_at n (suc zero) below = refl
four_at n (suc (suc zero)) below = refl
four_at n (suc (suc (suc zero))) below = refl
four_at n (suc (suc (suc (suc k)))) below = absurd (omega (arith, below))

zeros_at : (i : ℕ) → get_or (four 0) i 0 ≡ 0
zeros_at zero = refl
zeros_at (suc zero) = refl
zeros_at (suc (suc zero)) = refl
zeros_at (suc (suc (suc zero))) = refl
zeros_at (suc (suc (suc (suc k)))) = refl

pub all_ones : (l : ℕ) → l < 256 → bit_in l (four 18446744073709551615) ≡ 1
all_ones l below =
    ap (λ n. bit_at n (l % 64)) (four_at 18446744073709551615 (l / 64) (omega (arith, below)))
    ∙ bit_at_ones 64 (l % 64) (omega arith)

pub all_zeros : (l : ℕ) → bit_in l (four 0) ≡ 0
all_zeros l = ap (λ n. bit_at n (l % 64)) (zeros_at (l / 64)) ∙ bit_at-zero (l % 64)
