use Rattle.std.proofs.Common.{◌≡◌, ◌+◌, ◌-◌, ◌<◌, ◌∙◌, ℕ, List, ap, ap₂, arith, drop, get_or, length, subst, sym, take}
use Rattle.std.specs.List.{sum}
use Rattle.aig_lasso.proofs.GoalsShown.{own_at}
use Rattle.aig_lasso.proofs.goals.find_own.Goals as goal

behind_start : (start size : ℕ) → start + size - start ≡ size
behind_start start size = omega arith

pub returns-clause-own : goal.returns-clause-own
returns-clause-own c =
    let j = c.args.circuit.now.justice in
    let n = c.args.property in
    let same = c.as_slice-sizes.ensures in
    ap₂ (λ (k : ℕ) (ls : List ℕ). take k ls)
    (behind_start c.count_before-start.result _ ∙ ap (λ (ss : List ℕ). get_or ss n 0) same)
    (ap₂ (λ (k : ℕ) (ls : List ℕ). drop k ls)
    (c.count_before-start.ensures ∙ ap (λ (ss : List ℕ). sum (take n ss)) same) c.as_slice.ensures)
    ∙ sym (own_at j.sizes j.literals n (subst (λ (ss : List ℕ). n < length ss) same c.if-sizes-place.false))
