-- What is made of two circuits says whether they are alike.
use Rattle.std.proofs.Common.{◌≡◌, ◌↔◌, ◌∙◌, ℕ, List, [], ◌∷◌, None, arith, eqb, false, length, min, subst, sym}
use Rattle.std.proofs.Common.{true, ⊎_elim}
use Rattle.std.specs.List.{AllByRecursion}
use Rattle.std.proofs.lemmas.Bool.Decides.{eqb_tells}
use Rattle.std.proofs.lemmas.List.{length-map}
use Rattle.aig_circuit.specs.declared.circuit.Circuit.{Circuit}
use Rattle.aig_circuit.specs.declared.circuit.Latch.{Latch}
use Rattle.aig_circuit.specs.declared.value.Val.{Val}
use Rattle.aig_circuit.specs.declared.value.Val.TheVariants.{Zero}
use Rattle.aig_circuit.specs.Literal.{literal_of}
use Rattle.aig_circuit.specs.Wellformed.{IsWellFormed}
use Rattle.aig_invariant.proofs.Never.{invariants_mean_never}
use Rattle.aig_meaning.specs.Meaning.{latch_variables}
use Rattle.aig_meaning.proofs.Traces.{first_length}
use Rattle.aig_miter.specs.Both.{differ}
use Rattle.aig_miter.specs.Laws.{IsMiterOf}
use Rattle.aig_miter.specs.Outcome.{pair_fault}
use Rattle.aig_miter.specs.Starts.{free_literals, free_only, miter, pairs}
use Rattle.aig_unroll.specs.Unrolled.{resets_of}
use Rattle.aig_miter.proofs.Sizes.{as_plain, as_started, free_as_many}
use Rattle.aig_miter.proofs.Whole.{made_means, pair_formed, pair_without_fault}
use Rattle.aig_reach.proofs.Whole.{unsatisfiable_means_none}
use Rattle.aig_equal.specs.Alike.{AreAlikeFor, IsUnreachedFor}
use Rattle.aig_equal.specs.Laws.{AlikeExactlyWhereUnreached, AllStartAlikeWithoutPairs, InvariantMeansAlike}
use Rattle.aig_equal.specs.Laws.{RefutedMeansAlike}
use Rattle.aig_equal.proofs.Alike.{AreCompared, AreFreelyAlike, freely_alike}
use Rattle.aig_equal.proofs.StartsAlike.{alike_from_equal_starts}

-- ---- circuits without a pair

nothing_differs : (P : Val → Type 0) (xs ys : List Val) → min (length xs) (length ys) ≡ 0
    → AllByRecursion P (differ xs ys)
nothing_differs P [] ys none = tt
nothing_differs P (x ∷ xs) [] none = tt
nothing_differs P (x ∷ xs) (y ∷ ys) none = absurd (omega (arith, none))

-- as many values of uninitialised latches as there are such latches
free_many : (c : Circuit) (state : List Val) → length state ≡ length c.latches
    → length (free_only (resets_of c) state) ≡ length (free_literals c)
free_many c state long =
    free_as_many (resets_of c) state (latch_variables c) (long ∙ sym (length-map c.latches (λ (l : Latch). l.var)))
    ∙ sym (length-map (free_only (resets_of c) (latch_variables c)) literal_of)

pub all_start_alike_without_pairs : AllStartAlikeWithoutPairs
all_start_alike_without_pairs a b f g none start start_too =
    nothing_differs (λ x. x ≡ Zero) (free_only (resets_of a) f) (free_only (resets_of b) g)
    (omega (arith, none, free_many a f (first_length a f start), free_many b g (first_length b g start_too)))

without_pairs : (a b : Circuit) (frames : ℕ) → pairs a b ≡ 0 → AreFreelyAlike frames a b ↔ AreAlikeFor frames a b
without_pairs a b frames none = (
  λ alike f g vectors rs ss few trace trace_too start. alike f g vectors rs ss few trace trace_too,
  λ alike f g vectors rs ss few trace trace_too.
      alike f g vectors rs ss few trace trace_too
      (all_start_alike_without_pairs a b f g none trace.0 trace_too.0),
)

-- ---- all

compared : (a b m : Circuit) → IsMiterOf a b m → AreCompared a b (miter a b) × (miter a b ≡ m)
compared a b m is =
    let made = made_means (pair_fault a b) (miter a b) m is.made in
    let pair = pair_without_fault a b made.faultless in (
      record {
        fit = pair.fit;
        first = is.first;
        second = is.second;
        miter = pair_formed a b is.first is.second pair;
      },
      made.same,
    )

alike_exactly : (a b : Circuit) (frames : ℕ) → AreCompared a b (miter a b)
    → AreAlikeFor frames a b ↔ IsUnreachedFor frames (miter a b)
alike_exactly a b frames are =
    ⊎_elim
    (λ (t : (eqb (pairs a b) 0 ≡ true) × (pairs a b ≡ 0)).
    let is = as_plain a b t.1 in
    let free = without_pairs a b frames t.1 in
    let plain = freely_alike a b frames (subst (AreCompared a b) is are) in
    subst (λ (m : Circuit). AreAlikeFor frames a b ↔ IsUnreachedFor frames m) (sym is)
    ((λ alike. plain.0 (free.1 alike)), (λ unreached. free.0 (plain.1 unreached))))
    (λ (f : (eqb (pairs a b) 0 ≡ false) × ¬ (pairs a b ≡ 0)).
    let is = as_started a b f.1 in
    subst (λ (m : Circuit). AreAlikeFor frames a b ↔ IsUnreachedFor frames m) (sym is)
    (alike_from_equal_starts a b frames (subst (AreCompared a b) is are)))
    (eqb_tells (pairs a b) 0)

pub alike_exactly_where_unreached : AlikeExactlyWhereUnreached
alike_exactly_where_unreached a b m frames is =
    let all = compared a b m is in
    subst (λ (x : Circuit). AreAlikeFor frames a b ↔ IsUnreachedFor frames x) all.1 (alike_exactly a b frames all.0)

well_formed : (a b m : Circuit) → IsMiterOf a b m → IsWellFormed m
well_formed a b m is = let all = compared a b m is in subst IsWellFormed all.1 all.0.miter

pub refuted_means_alike : RefutedMeansAlike
refuted_means_alike a b m d frames is good unrolled none =
    (alike_exactly_where_unreached a b m frames is).1
    (unsatisfiable_means_none m d frames (well_formed a b m is) good unrolled none)

pub invariant_means_alike : InvariantMeansAlike
invariant_means_alike a b m d bytes cubes is has good_more good unrolled none frames =
    (alike_exactly_where_unreached a b m frames is).1
    (λ claim step low. invariants_mean_never m d None bytes cubes (well_formed a b m is) tt has good_more good unrolled
    none claim step (λ n e. cc))
