-- Assignments that agree on the inputs of all frames are cut into one run.
use Rattle.std.proofs.Common.{◌≡◌, ◌+◌, ◌*◌, ◌≤◌, ◌∷◌, ℕ, zero, suc, List, [], Bool, ap, ap₂, arith, length, map, refl}
use Rattle.std.specs.List.{range_with_len}
use Rattle.aig_circuit.specs.declared.circuit.Circuit.{Circuit}
use Rattle.aig_circuit.specs.declared.circuit.Reset.{Reset}
use Rattle.aig_circuit.specs.declared.circuit.Reset.TheVariants as resets
use Rattle.aig_circuit.specs.declared.value.Val.TheVariants.{Zero, One}
use Rattle.aig_cnf.specs.Clauses.{truth, truths}
use Rattle.aig_reach.specs.Cut.{cut_claim, cut_first, cut_steps}
use Rattle.aig_unroll.specs.Unrolled.{all_inputs, resets_of, uninitialised}

module _ (a b : ℕ → Bool) (most : ℕ) (same : (v : ℕ) → 1 ≤ v → v ≤ most → a v ≡ b v) where
  same_first : (v : ℕ) (rs : List Reset) → 1 ≤ v → v + uninitialised rs ≤ most + 1 → cut_first a v rs ≡ cut_first b v rs
  same_first v [] some within = refl
  same_first v (resets.Zero ∷ rs) some within = ap (λ vs. Zero ∷ vs) (same_first v rs some within)
  same_first v (resets.One ∷ rs) some within = ap (λ vs. One ∷ vs) (same_first v rs some within)
  same_first v (resets.Uninit ∷ rs) some within =
      ap₂ (λ x xs. truth x ∷ xs) (same v some (omega (arith, within)))
      (same_first (v + 1) rs (omega (arith, some)) (omega (arith, within)))

  same_inputs : (v n : ℕ) → 1 ≤ v → v + n ≤ most + 1
      → map (truths a) (range_with_len v n) ≡ map (truths b) (range_with_len v n)
  same_inputs v zero some within = refl
  same_inputs v (suc n) some within =
      ap₂ (λ x xs. truth x ∷ xs) (same v some (omega (arith, within)))
      (same_inputs (v + 1) n (omega (arith, some)) (omega (arith, within)))

  same_steps : (v inputs n : ℕ) → 1 ≤ v → v + n * inputs ≤ most + 1 → cut_steps a v inputs n ≡ cut_steps b v inputs n
  same_steps v inputs zero some within = refl
  same_steps v inputs (suc n) some within =
      ap₂ (λ x xs. x ∷ xs) (same_inputs v inputs some (omega (arith, within)))
      (same_steps (v + inputs) inputs n (omega (arith, some)) (omega (arith, within)))

pub one_cut : (c : Circuit) (frames : ℕ) (a b : ℕ → Bool)
    → ((v : ℕ) → 1 ≤ v → v ≤ all_inputs c frames → a v ≡ b v) → cut_claim c frames a 0 ≡ cut_claim c frames b 0
one_cut c frames a b same =
    let first = same_first a b (all_inputs c frames) same 1 (resets_of c) (omega arith) (omega arith) in
    let steps =
    same_steps a b (all_inputs c frames) same (1 + uninitialised (resets_of c)) (length c.inputs) frames (omega arith)
    (omega arith) in
    ap₂ (λ x xs. record { property = 0; first = x; steps = xs }) first steps
