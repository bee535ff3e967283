-- A cut is a first state and steps, and side by side it is the values of the unrolled circuit's inputs again.
use Rattle.std.proofs.Common.{◌≡◌, ◌+◌, ◌*◌, ◌++◌, ◌∙◌, ℕ, zero, suc, List, [], ◌∷◌, Bool, length, map, refl, sym, ap}
use Rattle.std.proofs.Common.{ap₂}
use Rattle.std.proofs.Common.{arith, suc-mul}
use Rattle.std.specs.List.{AllByRecursion, AllZip, flat_map, range_with_len}
use Rattle.std.proofs.lemmas.List.{length-map, map-append}
use Rattle.std.proofs.lemmas.List.FromFn.{length-range_with_len}
use Rattle.aig_circuit.specs.declared.circuit.Circuit.{Circuit}
use Rattle.aig_circuit.specs.declared.circuit.Reset.{Reset}
use Rattle.aig_circuit.specs.declared.circuit.Reset.TheVariants as resets
use Rattle.aig_circuit.specs.declared.value.Val.{Val}
use Rattle.aig_checked.proofs.Numbered.{ranges_joined}
use Rattle.aig_meaning.specs.Trace.{MayStartAt}
use Rattle.aig_cnf.specs.Clauses.{truth, truths}
use Rattle.aig_unroll.specs.Unrolled.{all_inputs, resets_of, uninitialised}
use Rattle.aig_unroll.specs.SideBySide.{inputs_side_by_side, uninitialised_values}
use Rattle.aig_reach.specs.Cut.{cut_claim, cut_first, cut_steps}

module _ (a : ℕ → Bool) where
  pub first_starts : (v : ℕ) (rs : List Reset) → AllZip MayStartAt rs (cut_first a v rs)
  first_starts v [] = tt
  first_starts v (resets.Zero ∷ rs) = (refl, first_starts v rs)
  first_starts v (resets.One ∷ rs) = (refl, first_starts v rs)
  first_starts v (resets.Uninit ∷ rs) = (tt, first_starts (v + 1) rs)

  first_values : (v : ℕ) (rs : List Reset)
      → uninitialised_values rs (cut_first a v rs) ≡ map (truths a) (range_with_len v (uninitialised rs))
  first_values v [] = refl
  first_values v (resets.Zero ∷ rs) = first_values v rs
  first_values v (resets.One ∷ rs) = first_values v rs
  first_values v (resets.Uninit ∷ rs) =
      let more : suc (uninitialised rs) ≡ 1 + uninitialised rs = omega arith in
      ap (λ (xs : List Val). truth (a v) ∷ xs) (first_values (v + 1) rs)
      ∙ ap (λ n. map (truths a) (range_with_len v n)) more

  pub steps_long : (v inputs n : ℕ)
      → AllByRecursion (λ (vector : List Val). length vector ≡ inputs) (cut_steps a v inputs n)
  steps_long v inputs zero = tt
  steps_long v inputs (suc n) = (
    length-map (range_with_len v inputs) (truths a) ∙ length-range_with_len v inputs,
    steps_long (v + inputs) inputs n,
  )

  pub steps_many : (v inputs n : ℕ) → length (cut_steps a v inputs n) ≡ n
  steps_many v inputs zero = refl
  steps_many v inputs (suc n) = ap suc (steps_many (v + inputs) inputs n)

  steps_values : (v inputs n : ℕ) → flat_map (λ (vector : List Val). vector) (cut_steps a v inputs n)
      ≡ map (truths a) (range_with_len v (n * inputs))
  steps_values v inputs zero =
      let none : 0 ≡ 0 * inputs = omega arith in ap (λ m. map (truths a) (range_with_len v m)) none
  steps_values v inputs (suc n) =
      let here = range_with_len v inputs in
      let later = range_with_len (v + inputs) (n * inputs) in
      let more : inputs + n * inputs ≡ suc n * inputs = omega (arith, suc-mul n inputs) in
      ap (λ (xs : List Val). map (truths a) here ++ xs) (steps_values (v + inputs) inputs n)
      ∙ sym (map-append (truths a) here later)
      ∙ ap (map (truths a)) (ranges_joined v inputs (n * inputs))
      ∙ ap (λ m. map (truths a) (range_with_len v m)) more

  -- side by side
  pub cut_is : (c : Circuit) (frames property : ℕ)
      → inputs_side_by_side c (cut_claim c frames a property).first (cut_claim c frames a property).steps
      ≡ map (truths a) (range_with_len 1 (all_inputs c frames))
  cut_is c frames property =
      let n = uninitialised (resets_of c) in
      let i = length c.inputs in
      let first = range_with_len 1 n in
      let others = range_with_len (1 + n) (frames * i) in
      ap₂ (λ (xs ys : List Val). xs ++ ys) (first_values 1 (resets_of c)) (steps_values (1 + n) i frames)
      ∙ sym (map-append (truths a) first others)
      ∙ ap (map (truths a)) (ranges_joined 1 n (frames * i))
