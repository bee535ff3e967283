-- Names in a search tree, one after the other.
use Rattle.std.proofs.Common.{◌≡◌, ◌+◌, ◌<◌, ◌∙◌, ◌++◌, ◌∷◌, ℕ, Bool, List, [], None, Option, Some, true, false}
use Rattle.std.proofs.Common.{arith, cond}
use Rattle.std.proofs.Common.{length, refl, sym, ap, ap₂, subst, drop, get_or, take, bytes_eq, drop-cons, add-one}
use Rattle.std.proofs.Common.{length-take}
use Rattle.std.specs.BTreeMap.{BTreeMap}
use Rattle.std.specs.Cmp.Lexicographic.{bytes_decides, nat_list_eq_equiv}
use Rattle.std.specs.List.{cons_option, position, position_from}
use Rattle.std.specs.Map.{update}
use Rattle.std.specs.Option.{IfSome, option_and_then, option_map, option_or}
use Rattle.std.proofs.lemmas.Iterator.Adapters.{position_from-zero}
use Rattle.std.proofs.lemmas.List.Elements.{filter_map-append}
use Rattle.std.proofs.Math.Seq.{take-suc}
use denote.Ref.{Bor}
use Rattle.aig_fault.specs.Stopping.{fault_at}
use Rattle.aig_fault.specs.declared.kind.Kind.{Kind}
use Rattle.aig_pairing.specs.declared.paired.Paired.{Paired}
use Rattle.aig_pairing.specs.ByNames.{in_order_of, value_named}
use Rattle.aig_pairing.specs.NameFaults.{name_fault, place_of, wrong_name}
use Rattle.aig_pairing.specs.Names.{Name, has_name, place_named}
use Rattle.aig_pairing.specs.Parts.Places.{AreAt, place_in}

or_none : (o : Option ℕ) → option_or o None ≡ o
or_none None = refl
or_none (Some n) = refl

-- the first place in a list with one more
from_here : {A : Type 0} (p : A → Bool) (i : ℕ) (xs : List A) (y : A) (t : Bool) (n m : ℕ) → n ≡ m
    → position_from p (i + 1) (xs ++ y ∷ []) ≡ option_or (position_from p (i + 1) xs) (cond (p y) (Some n) None)
    → cond t (Some i) (position_from p (i + 1) (xs ++ y ∷ []))
    ≡ option_or (cond t (Some i) (position_from p (i + 1) xs)) (cond (p y) (Some m) None)
from_here p i xs y true n m same later = refl
from_here p i xs y false n m same later =
    later ∙ ap (λ (k : ℕ). option_or (position_from p (i + 1) xs) (cond (p y) (Some k) None)) same

from-push : {A : Type 0} (p : A → Bool) (i : ℕ) (xs : List A) (y : A)
    → position_from p i (xs ++ y ∷ []) ≡ option_or (position_from p i xs) (cond (p y) (Some (i + length xs)) None)
from-push p i [] y = ap (λ (n : ℕ). cond (p y) (Some n) None) (omega arith)
from-push p i (x ∷ xs) y = from_here p i xs y (p x) (i + 1 + length xs) _ (omega arith) (from-push p (i + 1) xs y)

pub position-push : {A : Type 0} (p : A → Bool) (xs : List A) (y : A)
    → position p (xs ++ y ∷ []) ≡ option_or (position p xs) (cond (p y) (Some (length xs)) None)
position-push p xs y =
    position_from-zero p (xs ++ y ∷ []) ∙ from-push p 0 xs y
    ∙ ap (λ (n : ℕ). option_or (position_from p 0 xs) (cond (p y) (Some n) None)) (omega arith)
    ∙ ap (λ (o : Option ℕ). option_or o (cond (p y) (Some (length xs)) None)) (sym (position_from-zero p xs))

-- what the tree answers of a name
pub place_before : (before : List Name) (tree : BTreeMap (Bor (List ℕ)) ℕ) (n : Name) → AreAt before tree
    → option_and_then (place_in tree) n ≡ place_named before n
place_before before tree None at = refl
place_before before tree (Some bytes) at = at bytes

pub found_there : (names own : List Name) (tree : BTreeMap (Bor (List ℕ)) ℕ) (name : Name) (bytes given : List ℕ)
    → AreAt own tree → own ≡ names → name ≡ Some given → bytes ≡ given
    → place_in tree bytes ≡ place_named names name
found_there names own tree name bytes given at is named same =
    at bytes ∙ ap₂ (λ (b : List ℕ) (ns : List Name). position (has_name b) ns) same is
    ∙ sym (ap (place_named names) named)

-- a name that the tree had not, and then has
new_at : (bytes q : List ℕ) (i : ℕ) (before : List Name) (old new : Option ℕ) (t : Bool)
    → bytes_eq q bytes ≡ t → old ≡ position (has_name q) before → (t ≡ true → old ≡ None)
    → length before ≡ i → new ≡ cond t (Some i) old
    → new ≡ position (has_name q) (before ++ Some bytes ∷ [])
new_at bytes q i before old new true same was none long is =
    is ∙ ap Some (sym long)
    ∙ sym (position-push (has_name q) before (Some bytes)
    ∙ ap₂ (λ (o : Option ℕ) (b : Bool). option_or o (cond b (Some (length before)) None)) (sym was ∙ none refl) same)
new_at bytes q i before old new false same was none long is =
    is ∙ was
    ∙ sym (position-push (has_name q) before (Some bytes)
    ∙ ap (λ (b : Bool). option_or (position (has_name q) before) (cond b (Some (length before)) None)) same
    ∙ or_none (position (has_name q) before))

pub not_before : (name : List ℕ) (place : Option ℕ) → wrong_name (Some name) place ≡ None → place ≡ None
not_before name None right = refl
not_before name (Some place) right = absurd (cc)

-- the tree and one name more
pub one_more : (before : List Name) (n : Name) (old new : BTreeMap (Bor (List ℕ)) ℕ) (i : ℕ)
    → length before ≡ i → AreAt before old → wrong_name n (option_and_then (place_in old) n) ≡ None
    → IfSome n (λ bytes. (q : List ℕ) → place_in new q ≡ update bytes_eq (place_in old) bytes (Some i) q)
    → AreAt (before ++ n ∷ []) new
one_more before None old new i long at right put q = absurd (cc)
one_more before (Some bytes) old new i long at right put q =
    new_at bytes q i before (place_in old q) (place_in new q) (bytes_eq q bytes) refl (at q)
    (λ same. ap (place_in old) ((bytes_decides q bytes).0 same) ∙ not_before bytes (place_in old bytes) right)
    long
    (put q ∙ ap (λ (t : Bool). cond t (Some i) (place_in old q)) (nat_list_eq_equiv.symm bytes q))

-- and the first fault is still behind it
pub still_behind : (paired : Paired) (before rest : List Name) (n : Name) (tree : BTreeMap (Bor (List ℕ)) ℕ)
    → AreAt before tree → wrong_name n (option_and_then (place_in tree) n) ≡ None
    → name_fault paired before (n ∷ rest) ≡ name_fault paired (before ++ n ∷ []) rest
still_behind paired before rest n tree at right =
    let none : wrong_name n (place_named before n) ≡ None =
    ap (wrong_name n) (sym (place_before before tree n at)) ∙ right in
    ap (λ (k : Option Kind). option_or (option_map (λ kind. fault_at kind (place_of paired (length before)) 0) k)
    (name_fault paired (before ++ n ∷ []) rest)) none

-- what was put at bytes is put where a name has these
pub put_there : (name : Name) (own bytes : List ℕ) (old new : BTreeMap (Bor (List ℕ)) ℕ) (i : ℕ)
    → name ≡ Some own → bytes ≡ own
    → ((q : List ℕ) → place_in new q ≡ update bytes_eq (place_in old) bytes (Some i) q)
    → IfSome name (λ b. (q : List ℕ) → place_in new q ≡ update bytes_eq (place_in old) b (Some i) q)
put_there name own bytes old new i named same put =
    subst (λ (n : Name). IfSome n (λ b. (q : List ℕ) → place_in new q ≡ update bytes_eq (place_in old) b (Some i) q))
    (sym (named ∙ ap Some (sym same))) put

module _ (names : List Name) (i : ℕ) (n : Name) (inside : i < length names) (is : n ≡ get_or names i n) where
  front_grows : take (i + 1) names ≡ take i names ++ n ∷ []
  front_grows =
      ap (λ (k : ℕ). take k names) (add-one i) ∙ take-suc names i n inside
      ∙ ap (λ (m : Name). take i names ++ m ∷ []) (sym is)

  -- what is ordered, and one value more
  pub ordered_grows : {A : Type 0} (own : List Name) (values ordered new : List A)
      → ordered ≡ in_order_of (take i names) own values
      → new ≡ ordered ++ cons_option (value_named own values n) []
      → new ≡ in_order_of (take (i + 1) names) own values
  ordered_grows own values ordered new so_far more =
      more ∙ ap (λ xs. xs ++ cons_option (value_named own values n) []) so_far
      ∙ sym (ap (λ ns. in_order_of ns own values) front_grows
      ∙ filter_map-append (value_named own values) (take i names) (n ∷ []))

  rest_begins : drop i names ≡ n ∷ drop (i + 1) names
  rest_begins =
      drop-cons names i n inside
      ∙ ap₂ (λ (m : Name) (k : ℕ). m ∷ drop k names) (sym is) (sym (add-one i))

  front_long : length (take i names) ≡ i
  front_long = omega (arith, length-take i names)

  module _ (paired : Paired) (old new : BTreeMap (Bor (List ℕ)) ℕ) (at : AreAt (take i names) old)
      (right : wrong_name n (option_and_then (place_in old) n) ≡ None) where
    -- the next name is in the tree too
    pub next_at : IfSome n (λ bytes. (q : List ℕ) → place_in new q ≡ update bytes_eq (place_in old) bytes (Some i) q)
        → AreAt (take (i + 1) names) new
    next_at put =
        subst (λ (ns : List Name). AreAt ns new) (sym front_grows)
        (one_more (take i names) n old new i front_long at right put)

    pub next_behind : name_fault paired (take (i + 1) names) (drop (i + 1) names)
        ≡ name_fault paired (take i names) (drop i names)
    next_behind =
        ap (λ (ns : List Name). name_fault paired ns (drop (i + 1) names)) front_grows
        ∙ sym (still_behind paired (take i names) (drop (i + 1) names) n old at right)
        ∙ ap (name_fault paired (take i names)) (sym rest_begins)
