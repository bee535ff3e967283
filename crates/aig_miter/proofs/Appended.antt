-- The gates that a miter has beside those of its circuits, pair by pair.
use Rattle.std.proofs.Common.{◌≡◌, ◌<◌, ◌≤◌, ◌+◌, ◌++◌, ℕ, suc, List, [], ◌∷◌, arith, drop, drop-cons, get_or, length}
use Rattle.std.proofs.Common.{inl, inr, min, refl}
use Rattle.std.proofs.lemmas.Bool.{cases_lt}
use Rattle.std.proofs.Math.ListN.{drop_of_length-le}
use Rattle.aig_circuit.specs.Literal.{literal_of, negation_of}
use Rattle.aig_unroll.specs.Unrolled.{gate_of}
use Rattle.aig_miter.specs.Miter.{differences, differing, tied}
use Rattle.aig_miter.specs.Starts.{gates_with, negations}

pub tied_next : (i : ℕ) (is vs : List ℕ) → i < length is → i < length vs
    → tied (drop i is) (drop i vs)
    ≡ record { var = get_or vs i 0; left = literal_of (get_or is i 0); right = 1 }
    ∷ tied (drop (i + 1) is) (drop (i + 1) vs)
tied_next i is vs of_is of_vs =
    let next : i + 1 ≡ suc i = omega arith in rw (next, drop-cons is i 0 of_is, drop-cons vs i 0 of_vs) refl

pub tied_end : (i : ℕ) (is vs : List ℕ) → length is ≤ i → tied (drop i is) (drop i vs) ≡ []
tied_end i is vs past = rw (drop_of_length-le is past) refl

pub differing_next : (v i : ℕ) (xs ys : List ℕ) → i < length xs → i < length ys
    → differing v (drop i xs) (drop i ys)
    ≡ differing v (get_or xs i 0 ∷ []) (get_or ys i 0 ∷ []) ++ differing (v + 3) (drop (i + 1) xs) (drop (i + 1) ys)
differing_next v i xs ys of_xs of_ys =
    let next : i + 1 ≡ suc i = omega arith in rw (next, drop-cons xs i 0 of_xs, drop-cons ys i 0 of_ys) refl

no_differing : (v : ℕ) (xs : List ℕ) → differing v xs [] ≡ []
no_differing v [] = refl
no_differing v (x ∷ xs) = refl

pub differing_end : (v i : ℕ) (xs ys : List ℕ) → min (length xs) (length ys) ≤ i
    → differing v (drop i xs) (drop i ys) ≡ []
differing_end v i xs ys past = elim (cases_lt i (length xs)) [
  | inl more ↦
      let short : length ys ≤ i = omega arith in
      let none : drop i ys ≡ [] = drop_of_length-le ys short in rw none (no_differing v (drop i xs))
  | inr short ↦ let none : drop i xs ≡ [] = drop_of_length-le xs short in rw none refl
]

pub differences_next : (v i : ℕ) (xs ys : List ℕ) → i < length xs → i < length ys
    → differences v (drop i xs) (drop i ys)
    ≡ literal_of (v + 2) ∷ differences (v + 3) (drop (i + 1) xs) (drop (i + 1) ys)
differences_next v i xs ys of_xs of_ys =
    let next : i + 1 ≡ suc i = omega arith in rw (next, drop-cons xs i 0 of_xs, drop-cons ys i 0 of_ys) refl

no_differences : (v : ℕ) (xs : List ℕ) → differences v xs [] ≡ []
no_differences v [] = refl
no_differences v (x ∷ xs) = refl

pub differences_end : (v i : ℕ) (xs ys : List ℕ) → min (length xs) (length ys) ≤ i
    → differences v (drop i xs) (drop i ys) ≡ []
differences_end v i xs ys past = elim (cases_lt i (length xs)) [
  | inl more ↦
      let short : length ys ≤ i = omega arith in
      let none : drop i ys ≡ [] = drop_of_length-le ys short in rw none (no_differences v (drop i xs))
  | inr short ↦ let none : drop i xs ≡ [] = drop_of_length-le xs short in rw none refl
]

-- ---- a gate for each literal

pub with_next : (v literal i : ℕ) (xs : List ℕ) → i < length xs
    → gates_with v literal (drop i xs)
    ≡ gate_of v literal (get_or xs i 0) ∷ gates_with (v + 1) literal (drop (i + 1) xs)
with_next v literal i xs low = let next : i + 1 ≡ suc i = omega arith in rw (next, drop-cons xs i 0 low) refl

pub with_end : (v literal i : ℕ) (xs : List ℕ) → length xs ≤ i → gates_with v literal (drop i xs) ≡ []
with_end v literal i xs past = rw (drop_of_length-le xs past) refl

pub negations_next : (v i : ℕ) (xs : List ℕ) → i < length xs
    → negations v (drop i xs) ≡ negation_of (literal_of v) ∷ negations (v + 1) (drop (i + 1) xs)
negations_next v i xs low = let next : i + 1 ≡ suc i = omega arith in rw (next, drop-cons xs i 0 low) refl

pub negations_end : (v i : ℕ) (xs : List ℕ) → length xs ≤ i → negations v (drop i xs) ≡ []
negations_end v i xs past = rw (drop_of_length-le xs past) refl
