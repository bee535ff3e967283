-- What is kept where a clause is added that need not follow, or let go.
use Rattle.std.proofs.Common.{◌≡◌, ◌<◌, ◌≤◌, ⊎_elim, ℕ, List, Bool, true, false, length, refl, subst, sym}
use Rattle.std.proofs.Common.{◌∙◌}
use Rattle.std.specs.Prelude.{slice_index}
use Rattle.std.specs.List.{list_any}
use Rattle.std.proofs.lemmas.Bool.{cases_Bool}
use Rattle.std.proofs.lemmas.List.Folds.{list_any_at}
use Rattle.aig_circuit.specs.Literal.{negation_of}
use Rattle.aig_cnf.specs.Clauses.{HasTrue, is_true}
use Rattle.aig_refute.specs.Extended.{made_true}
use Rattle.aig_refute.specs.Refuted.{Admits, CanExtend, Gains, Keeps, Preserves, base_of}
use Rattle.aig_refute.specs.Store.{IsFalse}
use Rattle.aig_refute.specs.declared.checker.Checker.{Checker}
use Rattle.aig_refute.proofs.Later.{all_false}
use Rattle.aig_refute.proofs.Made.{made, made_alike}

pub keeps_same : (checker : Checker) → Keeps checker checker
keeps_same checker = record { admits = λ a admits. (a, admits, λ literal lt. refl); base = refl }

pub keeps_both : (first second third : Checker) → Keeps first second → Keeps second third → Keeps first third
keeps_both first second third one two = record {
  admits = λ a admits.
      let next = one.admits a admits in
      let last = two.admits next.0 next.1 in (
        last.0,
        last.1,
        λ literal lt. last.2 literal (subst (λ (b : ℕ). literal < b) (sym one.base) lt) ∙ next.2 literal lt,
      );
  base = two.base ∙ one.base;
}

-- where all assignments stay
pub keeps_all : (old new : Checker) → ((a : ℕ → Bool) → Admits old a → Admits new a) → base_of new ≡ base_of old
    → Keeps old new
keeps_all old new stay base = record { admits = λ a admits. (a, stay a admits, λ literal lt. refl); base = base }

pub keeps_preserved : (old new : Checker) → Preserves old new → Keeps old new
keeps_preserved old new preserves = keeps_all old new preserves.admits preserves.base

-- where its first literal can be made true, a clause can be
pub can_extend : (clause : List ℕ) (new : Checker) (a : ℕ → Bool) → 0 < length clause
    → base_of new ≤ slice_index clause 0 → base_of new ≤ negation_of (slice_index clause 0) → Admits new a
    → (IsFalse a clause → Admits new (made_true (slice_index clause 0) a)) → CanExtend clause new a
can_extend clause new a some first second admits can_make = ⊎_elim
    (λ (has : list_any (is_true a) clause ≡ true). (a, admits, has, λ literal lt. refl))
    (λ (none : list_any (is_true a) clause ≡ false).
    let pivot : ℕ = slice_index clause 0 in (
      made_true pivot a,
      can_make (all_false (is_true a) clause none),
      list_any_at (is_true (made_true pivot a)) clause 0 0 some (made pivot a),
      made_alike pivot a (base_of new) first second,
    ))
    (cases_Bool (list_any (is_true a) clause))

-- a clause that follows
pub can_extend_alone : (clause : List ℕ) (new : Checker) (a : ℕ → Bool) → Admits new a → HasTrue a clause
    → CanExtend clause new a
can_extend_alone clause new a admits has = (a, admits, has, λ literal lt. refl)

-- a clause is added
pub keeps_gained : (clause : List ℕ) (first second third fourth : Checker) → Preserves first second
    → Preserves second third → ((a : ℕ → Bool) → Admits second a → CanExtend clause third a)
    → Gains clause third fourth → Keeps first fourth
keeps_gained clause first second third fourth one two extends gains = record {
  admits = λ a admits.
      let found = extends a (one.admits a admits) in (
        found.0,
        gains.admits found.0 found.1 found.2,
        λ literal lt. found.3 literal (subst (λ (b : ℕ). literal < b) (sym (two.base ∙ one.base)) lt),
      );
  base = gains.base ∙ (two.base ∙ one.base);
}
