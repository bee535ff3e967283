-- Numbers among others.
use Rattle.std.proofs.Common.{◌≡◌, ◌≢◌, ◌<◌, ◌∷◌, ◌++◌, ◌⊎◌, ℕ, zero, suc, List, [], refl, sym, subst, inl, inr, ⊎_elim}
use Rattle.std.proofs.Common.{arith, length, get_or}
use Rattle.aig_circuit.specs.Wellformed.{AreDistinct, IsAmong}

pub among_first : (x : ℕ) (xs ys : List ℕ) → IsAmong x xs → IsAmong x (xs ++ ys)
among_first x [] ys a = absurd a
among_first x (z ∷ xs) ys a =
    ⊎_elim (λ (e : x ≡ z). inl e) (λ (b : IsAmong x xs). inr (among_first x xs ys b)) a

pub among_last : (xs ys : List ℕ) (x : ℕ) → IsAmong x ys → IsAmong x (xs ++ ys)
among_last [] ys x a = a
among_last (z ∷ xs) ys x a = inr (among_last xs ys x a)

-- what stands in a list and one number more
pub in_longer : (list : List ℕ) (g h : ℕ) → IsAmong h (list ++ g ∷ []) → IsAmong h list ⊎ (h ≡ g)
in_longer [] g h a = ⊎_elim (λ (e : h ≡ g). inr e) (λ (n : ⊥). absurd n) a
in_longer (x ∷ xs) g h a = ⊎_elim
    (λ (e : h ≡ x). inl (inl e))
    (λ (b : IsAmong h (xs ++ g ∷ [])). ⊎_elim
    (λ (c : IsAmong h xs). inl (inr c))
    (λ (e : h ≡ g). inr e)
    (in_longer xs g h b))
    a

pub distinct_more : (xs : List ℕ) (g : ℕ) → AreDistinct xs → ¬ IsAmong g xs → AreDistinct (xs ++ g ∷ [])
distinct_more [] g d new = (λ a. a, tt)
distinct_more (x ∷ xs) g d new = (
  λ a. ⊎_elim d.0 (λ (e : x ≡ g). new (inl (sym e))) (in_longer xs g x a),
  distinct_more xs g d.1 (λ a. new (inr a)),
)

-- what follows distinct numbers is distinct
pub distinct_back : (xs ys : List ℕ) → AreDistinct (xs ++ ys) → AreDistinct ys
distinct_back [] ys d = d
distinct_back (x ∷ xs) ys d = distinct_back xs ys d.1

pub among_at : (v : ℕ) (xs : List ℕ) → IsAmong v xs → (k : ℕ) × (k < length xs) × (get_or xs k 0 ≡ v)
among_at v [] a = absurd a
among_at v (x ∷ xs) a = ⊎_elim
    (λ (e : v ≡ x). (zero, omega arith, sym e))
    (λ (b : IsAmong v xs). let later = among_at v xs b in (suc later.0, omega (arith, later.1), later.2))
    a

pub at_among : (xs : List ℕ) (k : ℕ) → k < length xs → IsAmong (get_or xs k 0) xs
at_among [] k below = absurd (omega (arith, below))
at_among (x ∷ xs) zero below = inl refl
at_among (x ∷ xs) (suc k) below = inr (at_among xs k (omega (arith, below)))

-- distinct numbers differ at different places
pub differ : (vs : List ℕ) → AreDistinct vs → (k i : ℕ) → k < i → i < length vs → get_or vs k 0 ≢ get_or vs i 0
differ [] apart k i before below e = absurd (omega (arith, below))
differ (v ∷ vs) apart k zero before below e = absurd (omega (arith, before))
differ (v ∷ vs) apart zero (suc i) before below e =
    apart.0 (subst (λ (w : ℕ). IsAmong w vs) (sym e) (at_among vs i (omega (arith, below))))
differ (v ∷ vs) apart (suc k) (suc i) before below e =
    differ vs apart.1 k i (omega (arith, before)) (omega (arith, below)) e
