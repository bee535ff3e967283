-- What unit propagation leaves, where it has come to its end.
use Rattle.std.proofs.Common.{◌≡◌, ◌≢◌, ◌<◌, ◌≤◌, ⊎_elim, ℕ, List, Bool, true, false}
use Rattle.std.proofs.Common.{arith, sym, ◌∙◌, ap, subst, ◌⊎◌}
use Rattle.std.specs.Prelude.{slice_index, slice_index_or}
use Rattle.std.proofs.lemmas.Bool.{cases_lt}
use Rattle.aig_circuit.specs.Literal.{negation_of}
use Rattle.aig_refute.specs.Kept.{ComesToRest, IsAtRest, IsIn, IsLeft, IsStored}
use Rattle.aig_refute.specs.Kept.{IsConsistent, IsTautology, RestsAt, Stands}
use Rattle.aig_refute.specs.Store.{IsClause, IsRead}
use Rattle.aig_refute.specs.declared.words.TheConstants.{END}

-- a literal was found that is not false
abbrev pub IsFree : List ℕ → List Bool → ℕ → ℕ → ℕ → Type 0
IsFree words marks at k free = (m : ℕ) × (at ≤ m) × (m < k) × (slice_index words m ≡ free)
    × (slice_index_or marks (negation_of free) false ≡ false)

in_clause : (words : List ℕ) (at e m : ℕ) → IsClause words at e → at ≤ m → m < e → IsIn words e m
in_clause words at e m is low high = (high, λ n n_low n_high. is.literals n (omega arith) n_high)

-- where each literal was read up to there, the clause does not end before
pub ends_later : (words : List ℕ) (marks : List Bool) (at e k free : ℕ) → IsClause words at e
    → IsRead words marks at k free → k ≤ e
ends_later words marks at e k free is read =
    ⊎_elim (λ (l : e < k). absurd ((read e is.order l).0 is.ends)) (λ (g : k ≤ e). g) (cases_lt e k)

-- the one literal that is left
pub left_one : (words : List ℕ) (marks : List Bool) (at e k free : ℕ) → IsClause words at e
    → IsRead words marks at k free → IsFree words marks at k free
    → (m : ℕ) × IsIn words e m × (slice_index words m ≡ free)
    × (slice_index_or marks (negation_of free) false ≡ false)
left_one words marks at e k free is read found =
    let later : k ≤ e = ends_later words marks at e k free is read in
    (found.0, in_clause words at e found.0 is found.1 (omega (arith, found.2)), found.3, found.4)

pub not_both : (b : Bool) → b ≡ false → b ≡ true → ⊥
not_both b f t = let wrong : false ≡ true = sym f ∙ t in cc

is_other : (known : ℕ → Bool) (l literal : ℕ) → known (negation_of l) ≡ false
    → (l ≡ literal) ⊎ (known (negation_of l) ≡ true) → l ≡ literal
is_other known l literal free either =
    ⊎_elim (λ (e : l ≡ literal). e) (λ (t : known (negation_of l) ≡ true). absurd (not_both _ free t)) either

-- two literals of a clause are not false
pub rests_two : (words : List ℕ) (marks : List Bool) (at e k free : ℕ) → IsClause words at e
    → IsRead words marks at k free → IsFree words marks at k free → slice_index words k ≢ END
    → slice_index words k ≢ free → slice_index_or marks (negation_of (slice_index words k)) false ≡ false
    → RestsAt (λ literal. slice_index_or marks literal false) words e
rests_two words marks at e k free is read found live apart unmarked = λ literal all.
    let later : k ≤ e = ends_later words marks at e k free is read in
    let k_not : k ≢ e = λ same. live (ap (slice_index words) same ∙ is.ends) in
    let k_low : at ≤ k = omega (arith, found.1, found.2) in
    let m_lt : found.0 < e = omega (arith, found.2) in
    let known : ℕ → Bool = λ l. slice_index_or marks l false in
    let first : free ≡ literal =
    is_other known free literal found.4
    (subst (λ (l : ℕ). (l ≡ literal) ⊎ (known (negation_of l) ≡ true)) found.3
    (all found.0 (in_clause words at e found.0 is found.1 m_lt))) in
    let second : slice_index words k ≡ literal =
    is_other known (slice_index words k) literal unmarked (all k (in_clause words at e k is k_low (omega arith))) in
    absurd (apart (second ∙ sym first))

-- the one that is left is known
pub rests_one : (known : ℕ → Bool) (words : List ℕ) (e literal : ℕ)
    → (k : ℕ) × IsIn words e k × (slice_index words k ≡ literal) × (known (negation_of literal) ≡ false)
    → known literal ≡ true → RestsAt known words e
rests_one known words e literal found is_known = λ other all.
    let same : literal ≡ other =
    is_other known literal other found.3
    (subst (λ (l : ℕ). (l ≡ other) ⊎ (known (negation_of l) ≡ true)) found.2 (all found.0 found.1)) in
    sym (ap known same) ∙ is_known

twice_negated : (l : ℕ) → negation_of (negation_of l) ≡ l
twice_negated l = grind arith

negation_apart : (l : ℕ) → negation_of l ≢ l
negation_apart l = λ e. absurd (grind (arith, e))

-- a clause that is always true is at rest
rests_always : (known : ℕ → Bool) (clause : List ℕ) → IsConsistent known → IsTautology clause → IsAtRest known clause
rests_always known clause consistent always = λ literal left.
    let one : ℕ = always.0 in
    ⊎_elim
    (λ (is : one ≡ literal).
    ⊎_elim
    (λ (both : negation_of one ≡ literal). absurd (negation_apart one (both ∙ sym is)))
    (λ (known_one : known (negation_of (negation_of one)) ≡ true).
    sym (ap known (twice_negated one ∙ is)) ∙ known_one)
    (left (negation_of one) always.2))
    (λ (refuted : known (negation_of one) ≡ true).
    ⊎_elim
    (λ (is : negation_of one ≡ literal). sym (ap known is) ∙ refuted)
    (λ (known_one : known (negation_of (negation_of one)) ≡ true).
    absurd (not_both _ (consistent one (sym (ap known (twice_negated one)) ∙ known_one)) refuted))
    (left (negation_of one) always.2))
    (left one always.1)

-- each clause that is stored is at rest
pub rests_stored : (words clause : List ℕ) (rest : ComesToRest words clause) (other : List ℕ) → IsStored words other
    → IsAtRest rest.known other
rests_stored words clause rest other stored =
    ⊎_elim
    (λ (standing : (e : ℕ) × Stands words other e).
    λ (literal : ℕ) (left : IsLeft rest.known other literal).
    rest.at_rest standing.0 standing.1.inside standing.1.ends literal
    (λ k is_in. left (slice_index words k) (standing.1.only k is_in)))
    (λ (always : IsTautology other). rests_always rest.known other rest.consistent always)
    stored
