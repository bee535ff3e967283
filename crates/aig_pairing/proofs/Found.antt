-- Names that are right, and where they are found.
use Rattle.std.proofs.Common.{◌≡◌, ◌+◌, ◌<◌, ◌∙◌, ◌++◌, ◌∷◌, ℕ, Bool, List, [], None, Option, Some, true, false}
use Rattle.std.proofs.Common.{ap, append_assoc, arith, cond, get_or, if◌then◌else◌, is_some, length, length-append}
use Rattle.std.proofs.Common.{refl, suc, sym, zero}
use Rattle.std.specs.Cmp.Lexicographic.{bytes_decides, nat_list_eq_equiv}
use Rattle.std.specs.List.{position, position_from}
use Rattle.std.specs.Option.{option_map, option_or}
use Rattle.std.proofs.lemmas.Iterator.Adapters.{position_from-zero}
use Rattle.std.proofs.lemmas.List.Quantifiers.{position-Some}
use Rattle.aig_fault.specs.declared.fault.Fault.{Fault}
use Rattle.aig_pairing.specs.declared.paired.Paired.{Paired}
use Rattle.aig_pairing.specs.NameFaults.{missing_fault, name_fault, wrong_name}
use Rattle.aig_pairing.specs.Names.{Name, has_name, place_named}
use Rattle.aig_pairing.proofs.Indexing.{not_before}

-- each name is found where it stands
abbrev pub AreRight : List Name → Type 0
AreRight names = (i : ℕ) → i < length names → place_named names (get_or names i None) ≡ Some i

-- each of these names is found among the others
abbrev pub AreFound : (others names : List Name) → Type 0
AreFound others names =
    (i : ℕ) → i < length names → (place : ℕ) × (place_named others (get_or names i None) ≡ Some place)

-- where a test passes first, behind items where it does not
hit_here : {A : Type 0} (p : A → Bool) (i : ℕ) (x : A) (xs ys : List A) (y : A) (t : Bool) (n : ℕ)
    → (position_from p (i + 1) xs ≡ None → position_from p (i + 1) (xs ++ y ∷ ys) ≡ Some n)
    → cond t (Some i) (position_from p (i + 1) xs) ≡ None
    → cond t (Some i) (position_from p (i + 1) (xs ++ y ∷ ys)) ≡ Some n
hit_here p i x xs ys y true n later none = absurd (cc)
hit_here p i x xs ys y false n later none = later none

from-hit : {A : Type 0} (p : A → Bool) (i : ℕ) (xs ys : List A) (y : A) → p y ≡ true
    → position_from p i xs ≡ None → position_from p i (xs ++ y ∷ ys) ≡ Some (i + length xs)
from-hit p i [] ys y passes none =
    ap (λ (t : Bool). cond t (Some i) (position_from p (i + 1) ys)) passes ∙ ap Some (omega arith)
from-hit p i (x ∷ xs) ys y passes none =
    hit_here p i x xs ys y (p x) (i + length (x ∷ xs))
    (λ later. from-hit p (i + 1) xs ys y passes later ∙ ap Some (omega arith)) none

position-hit : {A : Type 0} (p : A → Bool) (xs ys : List A) (y : A) → p y ≡ true → position p xs ≡ None
    → position p (xs ++ y ∷ ys) ≡ Some (length xs)
position-hit p xs ys y passes none =
    position_from-zero p (xs ++ y ∷ ys)
    ∙ from-hit p 0 xs ys y passes (sym (position_from-zero p xs) ∙ none)
    ∙ ap Some (omega arith)

-- what stands where a name is found is that name
has_this : (bytes : List ℕ) (name : Name) → has_name bytes name ≡ true → name ≡ Some bytes
has_this bytes None has = absurd (cc)
has_this bytes (Some own) has = ap Some (sym ((bytes_decides bytes own).0 has))

pub found_within : (names : List Name) (name : Name) (k : ℕ) → place_named names name ≡ Some k → k < length names
found_within names None k found = absurd (cc)
found_within names (Some bytes) k found = (position-Some (has_name bytes) names k None found).0

pub found_is : (names : List Name) (name : Name) (k : ℕ) → place_named names name ≡ Some k → get_or names k None ≡ name
found_is names None k found = absurd (cc)
found_is names (Some bytes) k found =
    has_this bytes (get_or names k None) (position-Some (has_name bytes) names k None found).1

-- a name that is right after those before it, and is found there
found_here : (n : Name) (before rest : List Name) → wrong_name n (place_named before n) ≡ None
    → place_named (before ++ n ∷ rest) n ≡ Some (length before)
found_here None before rest right = absurd (cc)
found_here (Some bytes) before rest right =
    position-hit (has_name bytes) before rest (Some bytes) (nat_list_eq_equiv.refl bytes)
    (not_before bytes (place_named before (Some bytes)) right)

first_none : {A : Type 0} (o p : Option A) → option_or o p ≡ None → o ≡ None
first_none None p none = refl
first_none (Some a) p none = absurd (cc)

second_none : {A : Type 0} (o p : Option A) → option_or o p ≡ None → p ≡ None
second_none None p none = none
second_none (Some a) p none = absurd (cc)

pub both_none : {A : Type 0} (o p : Option A) → option_or o p ≡ None → (o ≡ None) × (p ≡ None)
both_none o p none = (first_none o p none, second_none o p none)

none_mapped : {A B : Type 0} (f : A → B) (o : Option A) → option_map f o ≡ None → o ≡ None
none_mapped f None none = refl
none_mapped f (Some a) none = absurd (cc)

-- without a fault each name is found where it stands, behind those before
right_behind : (paired : Paired) (before rest : List Name) → name_fault paired before rest ≡ None
    → (i : ℕ) → i < length rest → place_named (before ++ rest) (get_or rest i None) ≡ Some (length before + i)
right_behind paired before [] right i low = absurd (omega (arith, low))
right_behind paired before (n ∷ ns) right zero low =
    found_here n before ns (none_mapped _ (wrong_name n (place_named before n)) (first_none _ _ right))
    ∙ ap Some (omega arith)
right_behind paired before (n ∷ ns) right (suc i) low =
    ap (λ (names : List Name). place_named names (get_or ns i None)) (sym (append_assoc before (n ∷ []) ns))
    ∙ right_behind paired (before ++ n ∷ []) ns (second_none _ _ right) i (omega (arith, low))
    ∙ ap Some (omega (arith, length-append before (n ∷ [])))

pub are_right : (paired : Paired) (names : List Name) → name_fault paired [] names ≡ None → AreRight names
are_right paired names right i low = right_behind paired [] names right i low ∙ ap Some (omega arith)

-- where none is missing each is found
there_if : (t : Bool) (fault : Fault) (later : Option Fault) → (if t then later else Some fault) ≡ None → t ≡ true
there_if true fault later none = refl
there_if false fault later none = absurd (cc)

later_if : (t : Bool) (fault : Fault) (later : Option Fault) → (if t then later else Some fault) ≡ None → later ≡ None
later_if true fault later none = none
later_if false fault later none = absurd (cc)

some_there : {A : Type 0} (o : Option A) → is_some o ≡ true → (a : A) × (o ≡ Some a)
some_there None is = absurd (cc)
some_there (Some a) is = (a, refl)

found_from : (paired : Paired) (others : List Name) (k : ℕ) (names : List Name)
    → missing_fault paired others k names ≡ None → AreFound others names
found_from paired others k [] none i low = absurd (omega (arith, low))
found_from paired others k (n ∷ ns) none zero low =
    some_there (place_named others n) (there_if (is_some (place_named others n)) _ _ none)
found_from paired others k (n ∷ ns) none (suc i) low =
    found_from paired others (k + 1) ns (later_if (is_some (place_named others n)) _ _ none) i (omega (arith, low))

pub are_found : (paired : Paired) (others names : List Name) → missing_fault paired others 0 names ≡ None
    → AreFound others names
are_found paired others names none = found_from paired others 0 names none
