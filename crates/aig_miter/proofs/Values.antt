-- What the gates that a miter has beside those of its circuits show.
use Rattle.std.proofs.Common.{◌≡◌, ◌+◌, ◌++◌, ◌∙◌, ℕ, zero, List, [], ◌∷◌, ap, ap₂, arith, length, map}
use Rattle.std.proofs.Common.{refl, rules}
use Rattle.std.specs.List.{AllByRecursion, Contains}
use Rattle.std.proofs.lemmas.Bool.{cases_lt}
use Rattle.aig_circuit.specs.declared.circuit.Gate.{Gate}
use Rattle.aig_circuit.specs.declared.value.Val.{Val}
use Rattle.aig_circuit.specs.declared.value.Val.TheVariants.{Zero, One, X}
use Rattle.aig_circuit.specs.Literal.{literal_of, negation_of}
use Rattle.aig_circuit.specs.Values.{value_and, value_not}
use Rattle.aig_image.proofs.Meaning.{and_exchanged, larger_first}
use Rattle.aig_meaning.specs.Meaning.{Holds, literal_value}
use Rattle.aig_meaning.proofs.Related.{contained_later}
use Rattle.aig_miter.specs.Both.{differ, value_xor}
use Rattle.aig_unroll.specs.Unrolled.{gate_of}
use Rattle.aig_miter.specs.Miter.{differences, differing, tied}

not_twice : (v : Val) → value_not (value_not v) ≡ v
not_twice Zero = refl
not_twice One = refl
not_twice X = refl

and_one : (v : Val) → value_and v One ≡ v
and_one Zero = refl
and_one One = refl
and_one X = refl

-- neither both 1 nor both 0
neither : (x y : Val)
    → value_and (value_not (value_and x y)) (value_not (value_and (value_not x) (value_not y))) ≡ value_xor x y
neither Zero Zero = refl
neither Zero One = refl
neither Zero X = refl
neither One Zero = refl
neither One One = refl
neither One X = refl
neither X Zero = refl
neither X One = refl
neither X X = refl

pub differ_append : (xs ys us vs : List Val) → length xs ≡ length us
    → differ (xs ++ ys) (us ++ vs) ≡ differ xs us ++ differ ys vs
differ_append [] ys [] vs e = refl
differ_append [] ys (u ∷ us) vs e = absurd (omega (arith, e))
differ_append (x ∷ xs) ys [] vs e = absurd (omega (arith, e))
differ_append (x ∷ xs) ys (u ∷ us) vs e =
    ap (λ (zs : List Val). value_xor x u ∷ zs) (differ_append xs ys us vs (omega (arith, e)))

-- what holds of each gate, gate by gate
pub each_gate : (P : Gate → Type 0) (gs : List Gate) → ((g : Gate) → Contains gs g → P g) → AllByRecursion P gs
each_gate P [] holds = tt
each_gate P (g ∷ gs) holds =
    (holds g (zero, omega arith, refl), each_gate P gs (λ h h_in. holds h (contained_later g gs h h_in)))

module _ (a : ℕ → Val) where
  pub variable_value : (v : ℕ) → literal_value a (literal_of v) ≡ a v
  variable_value v = search rules

  pub negation_value : (l : ℕ) → literal_value a (negation_of l) ≡ value_not (literal_value a l)
  negation_value l = search (rules, cases_lt, not_twice)

  pub negation_values : (ls : List ℕ)
      → map (literal_value a) (map negation_of ls) ≡ map value_not (map (literal_value a) ls)
  negation_values [] = refl
  negation_values (l ∷ ls) = ap₂ (λ (x : Val) (xs : List Val). x ∷ xs) (negation_value l) (negation_values ls)

  -- a gate has the value of its operands, whichever is the larger one
  pub gate_has : (v x y : ℕ) → Holds a (gate_of v x y) → a v ≡ value_and (literal_value a x) (literal_value a y)
  gate_has v x y holds = search (rules, and_exchanged, larger_first)

  three_have : (v x y : ℕ) → Holds a (gate_of v x y) → Holds a (gate_of (v + 1) (negation_of x) (negation_of y))
      → Holds a (gate_of (v + 2) (negation_of (literal_of v)) (negation_of (literal_of (v + 1))))
      → literal_value a (literal_of (v + 2)) ≡ value_xor (literal_value a x) (literal_value a y)
  three_have v x y ones zeros last =
      let of_ones : literal_value a (negation_of (literal_of v))
      ≡ value_not (value_and (literal_value a x) (literal_value a y)) =
      negation_value (literal_of v) ∙ ap value_not (variable_value v ∙ gate_has v x y ones) in
      let of_zeros : literal_value a (negation_of (literal_of (v + 1)))
      ≡ value_not (value_and (value_not (literal_value a x)) (value_not (literal_value a y))) =
      negation_value (literal_of (v + 1))
      ∙ ap value_not
      (variable_value (v + 1) ∙ gate_has (v + 1) (negation_of x) (negation_of y) zeros
      ∙ ap₂ value_and (negation_value x) (negation_value y)) in
      variable_value (v + 2)
      ∙ gate_has (v + 2) (negation_of (literal_of v)) (negation_of (literal_of (v + 1))) last
      ∙ ap₂ value_and of_ones of_zeros
      ∙ neither (literal_value a x) (literal_value a y)

  pub differences_shown : (v : ℕ) (xs ys : List ℕ) → AllByRecursion (Holds a) (differing v xs ys)
      → map (literal_value a) (differences v xs ys) ≡ differ (map (literal_value a) xs) (map (literal_value a) ys)
  differences_shown v [] ys hold = refl
  differences_shown v (x ∷ xs) [] hold = refl
  differences_shown v (x ∷ xs) (y ∷ ys) hold =
      ap₂ (λ (z : Val) (zs : List Val). z ∷ zs) (three_have v x y hold.0 hold.1.0 hold.1.1.0)
      (differences_shown (v + 3) xs ys hold.1.1.1)

  tie_has : a 0 ≡ Zero → (i v : ℕ) → Holds a (record { var = v; left = literal_of i; right = 1 }) → a v ≡ a i
  tie_has constant i v holds =
      let one : literal_value a 1 ≡ One = ap value_not constant in
      holds ∙ ap₂ value_and (variable_value i) one ∙ and_one (a i)

  pub tied_show : a 0 ≡ Zero → (is vs : List ℕ) → length vs ≡ length is → AllByRecursion (Holds a) (tied is vs)
      → map a vs ≡ map a is
  tied_show constant [] [] e hold = refl
  tied_show constant [] (v ∷ vs) e hold = absurd (omega (arith, e))
  tied_show constant (i ∷ is) [] e hold = absurd (omega (arith, e))
  tied_show constant (i ∷ is) (v ∷ vs) e hold =
      ap₂ (λ (z : Val) (zs : List Val). z ∷ zs) (tie_has constant i v hold.0)
      (tied_show constant is vs (omega (arith, e)) hold.1)
