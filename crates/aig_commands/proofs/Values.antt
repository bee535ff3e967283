-- What is read of the values of an assignment.
use Rattle.std.proofs.lemmas.Grind.{common_steps, get_or-set_at}
use Rattle.std.proofs.Common.{◌≡◌, ◌⊎◌, ◌+◌, ◌-◌, ◌<◌, ◌≤◌, ◌∙◌, ℕ, List, [], ◌∷◌, Bool, true, false, ap, arith, get_or}
use Rattle.std.proofs.Common.{inl, inr, length, refl, replicate, subst, sym, ⊎_elim}
use Rattle.std.specs.Prelude.{◌==◌, ◌||◌, fold, if◌then◌else◌, not}
use Rattle.std.specs.List.{AllByRecursion, list_any}
use Rattle.std.proofs.lemmas.Bool.{eqb-true}
use Rattle.std.proofs.lemmas.List.{get_or-replicate, get_or-set_other, length-replicate, length-set}
use Rattle.aig_answer.specs.declared.reader.Signed.{Signed}
use Rattle.aig_answer.specs.Answer.{with_value}
use Rattle.aig_replay.specs.Starting.{assigned}
use Rattle.aig_commands.specs.Laws.{AreValuesOf}

abbrev pub character : Bool → ℕ
character b = if b then 49 else 48

abbrev pub IsRight : (ℕ → Bool) → Signed → Type 0
IsRight a value = value.is_negative ≡ not (a (value.number - 1))

-- the place of a variable has what an assignment says
abbrev pub IsPut : (ℕ → Bool) → List ℕ → ℕ → Type 0
IsPut a bits place = get_or bits place 48 ≡ character (a (place + 1))

back : (b : Bool) → (character b == 49) ≡ b
back true = refl
back false = refl

as_many : (bits : List ℕ) (value : Signed) → length (with_value bits value) ≡ length bits
as_many bits value = grind (arith, common_steps, length-set)

-- a value changes no place that is put
put_still : (a : ℕ → Bool) (bits : List ℕ) (value : Signed) (place : ℕ) → IsRight a value → IsPut a bits place
    → IsPut a (with_value bits value) place
put_still a bits value place right put = grind (arith, common_steps, get_or-set_at, get_or-set_other)

-- it puts its own
put_there : (a : ℕ → Bool) (bits : List ℕ) (value : Signed) (place : ℕ) → IsRight a value → place < length bits
    → value.number ≡ place + 2 → IsPut a (with_value bits value) place
put_there a bits value place right within number = grind (arith, common_steps, get_or-set_at)

all_still : (a : ℕ → Bool) (bits : List ℕ) (values : List Signed) (place : ℕ) → AllByRecursion (IsRight a) values
    → IsPut a bits place → IsPut a (fold with_value bits values) place
all_still a bits [] place right put = put
all_still a bits (value ∷ values) place right put =
    all_still a (with_value bits value) values place right.1 (put_still a bits value place right.0 put)

one_or_other : (b rest : Bool) → (b || rest) ≡ true → (b ≡ true) ⊎ (rest ≡ true)
one_or_other true rest is = inl refl
one_or_other false rest is = inr is

is_listed : (a : ℕ → Bool) (bits : List ℕ) (values : List Signed) (place : ℕ) → AllByRecursion (IsRight a) values
    → place < length bits → list_any (λ (value : Signed). value.number == place + 2) values ≡ true
    → IsPut a (fold with_value bits values) place
is_listed a bits [] place right within listed = cc
is_listed a bits (value ∷ values) place right within listed =
    let now = with_value bits value in
    ⊎_elim (λ (here : (value.number == place + 2) ≡ true).
    all_still a now values place right.1
    (put_there a bits value place right.0 within (eqb-true value.number (place + 2) here)))
    (λ (behind : list_any (λ (v : Signed). v.number == place + 2) values ≡ true).
    is_listed a now values place right.1 (omega (arith, within, as_many bits value)) behind)
    (one_or_other (value.number == place + 2) _ listed)

value_put : (a : ℕ → Bool) (variables : ℕ) (values : List Signed) → AreValuesOf a variables values → (place : ℕ)
    → place < variables → (b : Bool) → a (place + 1) ≡ b
    → IsPut a (fold with_value (replicate variables 48) values) place
value_put a variables values are place within true is =
    let within_too : place < length (replicate variables 48) =
    omega (arith, within, length-replicate {A = ℕ} variables 48) in
    let number : place + 1 + 1 ≡ place + 2 = omega arith in
    let listed = are.listed (place + 1) (omega arith) (omega (arith, within)) is in
    is_listed a (replicate variables 48) values place are.right within_too
    (subst (λ n. list_any (λ (value : Signed). value.number == n) values ≡ true) number listed)
value_put a variables values are place within false is =
    all_still a (replicate variables 48) values place are.right
    (get_or-replicate variables place 48 48 within ∙ ap character (sym is))

-- So the assignment that is read is this one, as far as the variables go.
pub values_read : (a : ℕ → Bool) (variables : ℕ) (values : List Signed) → AreValuesOf a variables values → (v : ℕ)
    → 1 ≤ v → v ≤ variables → assigned (fold with_value (replicate variables 48) values) v ≡ a v
values_read a variables values are v some within =
    let before : v - 1 + 1 ≡ v = omega (arith, some) in
    let put = value_put a variables values are (v - 1) (omega (arith, some, within)) (a (v - 1 + 1)) refl in
    ap (λ n. n == 49) put ∙ back (a (v - 1 + 1)) ∙ ap a before
