-- A gate that stands for itself needs a gate and is the first with its operands, and the first one that does stands for
-- itself.
use Rattle.std.proofs.Common.{◌≡◌, ◌+◌, ◌*◌, ◌<◌, ◌∙◌, ◌⊎◌, ℕ, List}
use Rattle.std.proofs.Common.{sym, ap, subst, inl, inr, ⊎_elim, arith}
use Rattle.std.proofs.lemmas.Bool.{cases_lt}
use Rattle.aig_circuit.specs.declared.circuit.Gate.{Gate}
use Rattle.aig_circuit.specs.Literal.{literal_of}
use Rattle.aig_simplify.specs.Folded.{HasSameOperands, NeedsGate, NeedsNoGate}
use Rattle.aig_simplify.specs.Parts.Folding.{IsFirst, IsFirstWith, IsValueAt, gate_at}

pub not_needed : (x y z : ℕ) → NeedsNoGate x y z → ¬ NeedsGate x y
not_needed x y z none need =
    ⊎_elim (λ (h : (y ≡ 0) × (z ≡ 0)). need.0 h.0)
    (λ (i : ((y ≡ 1) × (z ≡ x)) ⊎ ((y ≡ x) × (z ≡ x))).
    ⊎_elim (λ (h : (y ≡ 1) × (z ≡ x)). need.1 h.0) (λ (h : (y ≡ x) × (z ≡ x)). need.2 h.0) i)
    none

module _ (first : ℕ) (gates : List Gate) (k literal : ℕ) (is : IsValueAt first gates k literal) where
  abbrev IsOther : Type 0
  IsOther = (j : ℕ) × IsFirstWith gates k j × NeedsGate (gate_at gates j).left (gate_at gates j).right
      × (literal ≡ literal_of (first + j))

  pub first_stands : IsFirst gates k → NeedsGate (gate_at gates k).left (gate_at gates k).right
      → literal ≡ literal_of (first + k)
  first_stands is_first need =
      ⊎_elim
      (λ (none : NeedsNoGate (gate_at gates k).left (gate_at gates k).right literal).
      absurd (not_needed (gate_at gates k).left (gate_at gates k).right literal none need))
      (λ (h : IsOther). elim (cases_lt h.0 k) [
        | inl earlier ↦ absurd (is_first h.0 earlier h.1.1)
        | inr not_earlier ↦
            let same : h.0 ≡ k = omega (arith, h.1.0) in
            h.3 ∙ ap (λ (j : ℕ). literal_of (first + j)) same
      ])
      is

  pub own_first : 0 < first → (gate_at gates k).left < 2 * (first + k) → literal ≡ literal_of (first + k)
      → IsFirst gates k
  own_first some low own =
      ⊎_elim
      (λ (none : NeedsNoGate (gate_at gates k).left (gate_at gates k).right literal).
      ⊎_elim (λ (h : ((gate_at gates k).right ≡ 0) × (literal ≡ 0)). absurd (omega (arith, h.1)))
      (λ (i : (((gate_at gates k).right ≡ 1) × (literal ≡ (gate_at gates k).left))
      ⊎ (((gate_at gates k).right ≡ (gate_at gates k).left) × (literal ≡ (gate_at gates k).left))).
      ⊎_elim
      (λ (h : ((gate_at gates k).right ≡ 1) × (literal ≡ (gate_at gates k).left)). absurd (omega (arith, h.1)))
      (λ (h : ((gate_at gates k).right ≡ (gate_at gates k).left) × (literal ≡ (gate_at gates k).left)).
      absurd (omega (arith, h.1)))
      i)
      none)
      (λ (h : IsOther).
      let same : h.0 ≡ k = omega (arith, h.3) in
      subst (IsFirst gates) same h.1.2)
      is

-- two firsts with the same operands are one
pub one_first : (gates : List Gate) (j k : ℕ) → IsFirst gates j → IsFirst gates k
    → HasSameOperands (gate_at gates j) (gate_at gates k) → j ≡ k
one_first gates j k j_first k_first same = elim (cases_lt j k) [
  | inl earlier ↦ absurd (k_first j earlier same)
  | inr not_earlier ↦ elim (cases_lt k j) [
    | inl later ↦ absurd (j_first k later (sym same.0, sym same.1))
    | inr not_later ↦ omega arith
  ]
]
