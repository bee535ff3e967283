-- Numbers that follow on one another in an order, by the positions that it has: each tells the place in the order.
use Rattle.std.proofs.Common.{◌≡◌, ◌≢◌, ◌+◌, ◌-◌, ◌<◌, ◌∙◌, ℕ, List, length, get_or, sym, ap, arith}
use Rattle.aig_image.specs.Parts.Placed.{FollowOn}

module _ (before : ℕ) (order given : List ℕ) (on : FollowOn before order given) where
  abbrev pub place : ℕ → ℕ
  place i = get_or given i 0 - before - 1

  pub placed : (i : ℕ) → i < length order
      → (before < get_or given i 0) × (place i < length order) × (get_or order (place i) 0 ≡ i)
  placed i there =
      let stands = on.all i there in
      let told : get_or given i 0 ≡ before + (stands.0 + 1) =
      ap (λ k. get_or given k 0) (sym stands.2) ∙ on.numbers stands.0 stands.1 in
      let is : place i ≡ stands.0 = omega (arith, told) in
      (omega (arith, told), omega (arith, is, stands.1), ap (λ k. get_or order k 0) is ∙ stands.2)

  pub apart : (i k : ℕ) → i < k → k < length order → place i ≢ place k
  apart i k low there e =
      let same : i ≡ k =
      sym (placed i (omega (arith, low, there))).2 ∙ ap (λ p. get_or order p 0) e ∙ (placed k there).2 in
      omega (arith, same, low)

  pub back : (k : ℕ) → k < length order → place (get_or order k 0) ≡ k
  back k there = omega (arith, on.numbers k there)
