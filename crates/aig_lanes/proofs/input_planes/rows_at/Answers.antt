use Rattle.std.proofs.Common.{◌≡◌, ◌+◌, ◌<◌, ◌∙◌, rules, ℕ, List, arith, below_more, get_or, length, set}
use Rattle.std.proofs.Common.{get_or-set_other, get_or-set_same, length-set}
use Rattle.aig_lanes.proofs.input_planes.rows_at.Goals as goal

-- one more row is put
one_more : (f : ℕ → ℕ) (rows : List ℕ) (at row : ℕ) → at < length rows → row ≡ f at
    → ((r : ℕ) → r < at → get_or rows r 0 ≡ f r) → (r : ℕ) → r < at + 1 → get_or (set rows at row) r 0 ≡ f r
one_more f rows at row inside is before r below =
    below_more (λ (i : ℕ). get_or (set rows at row) i 0 ≡ f i) at
    (λ i less. get_or-set_other rows at i row 0 (omega (arith, less)) ∙ before i less)
    (get_or-set_same rows at row 0 inside ∙ is) r below

pub loop-r-preserved : goal.loop-r-preserved
loop-r-preserved c = search (rules, one_more, length-set)
