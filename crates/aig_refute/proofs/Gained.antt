-- What a checker has once clauses were added.
use Rattle.std.proofs.Common.{◌≡◌, ◌++◌, ◌⊎◌, [], ◌∷◌, ⊎_elim, inl, inr, ℕ, List, Bool, refl}
use Rattle.std.proofs.Common.{subst, sym}
use Rattle.std.proofs.Common.{◌∙◌, ap}
use Rattle.aig_cnf.specs.Clauses.{HasTrue, Satisfies}
use Rattle.aig_refute.specs.Kept.{IsAmong, IsStored}
use Rattle.aig_refute.specs.Refuted.{Admits, Gains, GainsAll, Preserves, base_of, words_of}
use Rattle.aig_refute.specs.Agree.{Agrees, Grows}
use Rattle.aig_refute.specs.declared.checker.Checker.{Checker}
use Rattle.aig_refute.specs.declared.kernel.Kernel.{Kernel}
use Rattle.aig_refute.specs.declared.store.Store.{Store}

pub preserves_same : (checker : Checker) → Preserves checker checker
preserves_same checker = record { admits = λ a h. h; base = refl; stored = λ clause h. h }

pub preserves_both : (first second third : Checker) → Preserves first second → Preserves second third
    → Preserves first third
preserves_both first second third one two = record {
  admits = λ a h. two.admits a (one.admits a h);
  base = two.base ∙ one.base;
  stored = λ clause h. two.stored clause (one.stored clause h);
}

-- the propagation of clauses alone changed
pub preserves_kernel : (old new : Checker) → Grows old.propagation.kernel new.propagation.kernel → Preserves old new
preserves_kernel old new grows = record { admits = grows.agrees; base = grows.base; stored = grows.stored }

-- that no assignment is admitted any more was found out
pub preserves_refuted : (old new : Checker) (between_ : Kernel) → Grows old.propagation.kernel between_
    → new.propagation.kernel.store ≡ between_.store → ((a : ℕ → Bool) → ¬ Admits old a) → Preserves old new
preserves_refuted old new between_ grows store none = record {
  admits = λ a h. absurd (none a h);
  base = ap (λ (s : Store). s.base) store ∙ grows.base;
  stored = λ clause h.
      subst (λ (s : Store). IsStored s.words.items clause) (sym store) (grows.stored clause h);
}

-- what else a checker has makes no difference
pub preserves_on : (old between_ new : Checker) → new.propagation.kernel ≡ between_.propagation.kernel
    → Preserves old between_ → Preserves old new
preserves_on old between_ new same one = record {
  admits = λ a h. subst (λ (k : Kernel). Agrees a k) (sym same) (one.admits a h);
  base = ap (λ (k : Kernel). k.store.base) same ∙ one.base;
  stored = λ clause h.
      subst (λ (k : Kernel). IsStored k.store.words.items clause) (sym same) (one.stored clause h);
}

pub gains_preserved : (clause : List ℕ) (first second third : Checker) → Gains clause first second
    → Preserves second third → Gains clause first third
gains_preserved clause first second third one two = record {
  admits = λ a h has. two.admits a (one.admits a h has);
  base = two.base ∙ one.base;
  stored = λ other h. two.stored other (one.stored other h);
  gained = two.stored clause one.gained;
}

pub gains_none : (checker : Checker) → GainsAll [] checker checker
gains_none checker =
    record { admits = λ a h sat. h; base = refl; stored = λ clause h. h; gained = λ clause h. absurd h }

pub gains_first : (clause : List ℕ) (others : List (List ℕ)) (first second third : Checker) → Gains clause first second
    → GainsAll others second third → GainsAll (clause ∷ others) first third
gains_first clause others first second third one two = record {
  admits = λ a h sat. two.admits a (one.admits a h sat.0) sat.1;
  base = two.base ∙ one.base;
  stored = λ other h. two.stored other (one.stored other h);
  gained = λ other among. ⊎_elim
      (λ (e : other ≡ clause). two.stored other (subst (IsStored (words_of second)) (sym e) one.gained))
      (λ (more : IsAmong others other). two.gained other more) among;
}

-- what is true of both parts
satisfies_parts : (a : ℕ → Bool) (front back : List (List ℕ)) → Satisfies a (front ++ back)
    → Satisfies a front × Satisfies a back
satisfies_parts a [] back sat = (tt, sat)
satisfies_parts a (c ∷ cs) back sat =
    ((sat.0, (satisfies_parts a cs back sat.1).0), (satisfies_parts a cs back sat.1).1)

among_part : (front back : List (List ℕ)) (clause : List ℕ) → IsAmong (front ++ back) clause
    → IsAmong front clause ⊎ IsAmong back clause
among_part [] back clause among = inr among
among_part (c ∷ cs) back clause (inl same) = inl (inl same)
among_part (c ∷ cs) back clause (inr more) =
    ⊎_elim (λ (f : IsAmong cs clause). inl (inr f)) (λ (b : IsAmong back clause). inr b)
    (among_part cs back clause more)

pub gains_both : (front back : List (List ℕ)) (first second third : Checker) → GainsAll front first second
    → GainsAll back second third → GainsAll (front ++ back) first third
gains_both front back first second third one two = record {
  admits = λ a h sat.
      let parts = satisfies_parts a front back sat in two.admits a (one.admits a h parts.0) parts.1;
  base = two.base ∙ one.base;
  stored = λ other h. two.stored other (one.stored other h);
  gained = λ clause among. ⊎_elim (λ (f : IsAmong front clause). two.stored clause (one.gained clause f))
      (λ (b : IsAmong back clause). two.gained clause b) (among_part front back clause among);
}

-- a clause was appended
pub gains_pushed : (clause : List ℕ) (old new : Checker)
    → ((a : ℕ → Bool) → Admits old a → HasTrue a clause → Admits new a) → base_of new ≡ base_of old
    → ((other : List ℕ) → IsStored (words_of old) other → IsStored (words_of new) other)
    → IsStored (words_of new) clause → Gains clause old new
gains_pushed clause old new admits base stored pushed =
    record { admits = admits; base = base; stored = stored; gained = pushed }
