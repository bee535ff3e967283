-- What is taken of values by names.
use Rattle.std.proofs.Common.{◌≡◌, ◌<◌, ◌≤◌, ◌∙◌, ◌∷◌, ◌⊎◌, ℕ, List, [], None, Option, Some, arith, suc, zero}
use Rattle.std.proofs.Common.{length, refl, sym, ap, subst, get_or, inl, inr, ⊎_elim}
use Rattle.std.specs.List.{AllByRecursion, cons_option, filter_map, slice_get}
use Rattle.std.specs.Option.{option_and_then}
use Rattle.std.proofs.lemmas.Option.{slice_get-get_or}
use Rattle.aig_circuit.specs.Wellformed.{AreDistinct, IsAmong}
use Rattle.aig_circuit.proofs.Checking.{at_most_below}
use Rattle.aig_topo.proofs.Ordering.LeastReady.{among_or_not}
use Rattle.aig_topo.proofs.Ordering.Ranked.{all_of}
use Rattle.aig_pairing.specs.ByNames.{in_order_of, value_named}
use Rattle.aig_pairing.specs.Names.{Name, place_named}
use Rattle.aig_pairing.proofs.Found.{AreFound, AreRight, found_is, found_within}

-- an item more, if there is one
cons_either : (o : Option ℕ) (vs : List ℕ) (v : ℕ) → IsAmong v (cons_option o vs) → (o ≡ Some v) ⊎ IsAmong v vs
cons_either None vs v a = inr a
cons_either (Some w) vs v a = ⊎_elim (λ (e : v ≡ w). inl (ap Some (sym e))) (λ (b : IsAmong v vs). inr b) a

cons_keeps : (o : Option ℕ) (vs : List ℕ) (v : ℕ) → IsAmong v vs → IsAmong v (cons_option o vs)
cons_keeps None vs v a = a
cons_keeps (Some w) vs v a = inr a

cons_once : (o : Option ℕ) (vs : List ℕ) → ((v : ℕ) → o ≡ Some v → ¬ IsAmong v vs) → AreDistinct vs
    → AreDistinct (cons_option o vs)
cons_once None vs new once = once
cons_once (Some w) vs new once = (new w refl, once)

cons_short : (o : Option ℕ) (vs : List ℕ) (n : ℕ) → length vs ≤ n → length (cons_option o vs) ≤ suc n
cons_short None vs n short = omega (arith, short)
cons_short (Some w) vs n short = omega (arith, short)

module _ (h : Name → Option ℕ) where
  -- each has come from one of the names
  among_taken : (xs : List Name) (v : ℕ) → IsAmong v (filter_map h xs)
      → (i : ℕ) × (i < length xs) × (h (get_or xs i None) ≡ Some v)
  among_taken [] v a = absurd a
  among_taken (x ∷ xs) v a =
      ⊎_elim (λ (e : h x ≡ Some v). (zero, omega arith, e))
      (λ (b : IsAmong v (filter_map h xs)). let r = among_taken xs v b in (suc r.0, omega (arith, r.1), r.2))
      (cons_either (h x) (filter_map h xs) v a)

  taken_among : (xs : List Name) (i v : ℕ) → i < length xs → h (get_or xs i None) ≡ Some v → IsAmong v (filter_map h xs)
  taken_among [] i v low is = absurd (omega (arith, low))
  taken_among (x ∷ xs) zero v low is =
      subst (λ (o : Option ℕ). IsAmong v (cons_option o (filter_map h xs))) (sym is) (inl refl)
  taken_among (x ∷ xs) (suc i) v low is =
      cons_keeps (h x) (filter_map h xs) v (taken_among xs i v (omega (arith, low)) is)

  taken_once : (xs : List Name)
      → ((i j v : ℕ) → i < j → j < length xs → h (get_or xs i None) ≡ Some v → h (get_or xs j None) ≡ Some v → ⊥)
      → AreDistinct (filter_map h xs)
  taken_once [] apart = tt
  taken_once (x ∷ xs) apart =
      cons_once (h x) (filter_map h xs)
      (λ v is a. let r = among_taken xs v a in apart zero (suc r.0) v (omega arith) (omega (arith, r.1)) is r.2)
      (taken_once xs (λ i j v less low. apart (suc i) (suc j) v (omega (arith, less)) (omega (arith, low))))

  pub taken_short : (xs : List Name) → length (filter_map h xs) ≤ length xs
  taken_short [] = omega arith
  taken_short (x ∷ xs) = cons_short (h x) (filter_map h xs) (length xs) (taken_short xs)

-- where each name gives one, there are as many, place by place
abbrev pub GivesEach : {A : Type 0} → (Name → Option A) → List Name → Type 0
GivesEach {A} h xs = (i : ℕ) → i < length xs → (v : A) × (h (get_or xs i None) ≡ Some v)

gives_later : {A : Type 0} (h : Name → Option A) (x : Name) (xs : List Name) → GivesEach h (x ∷ xs) → GivesEach h xs
gives_later h x xs gives i low = gives (suc i) (omega (arith, low))

cons_long : {A : Type 0} (o : Option A) (vs : List A) (v : A) → o ≡ Some v → cons_option o vs ≡ v ∷ vs
cons_long {A} o vs v is = ap (λ (p : Option A). cons_option p vs) is

pub taken_long : {A : Type 0} (h : Name → Option A) (xs : List Name) → GivesEach h xs
    → length (filter_map h xs) ≡ length xs
taken_long h [] gives = refl
taken_long h (x ∷ xs) gives =
    let r = gives zero (omega arith) in
    ap length (cons_long (h x) (filter_map h xs) r.0 r.1) ∙ ap suc (taken_long h xs (gives_later h x xs gives))

pub taken_at : {A : Type 0} (h : Name → Option A) (xs : List Name) → GivesEach h xs → (i : ℕ) → i < length xs
    → slice_get (filter_map h xs) i ≡ h (get_or xs i None)
taken_at {A} h [] gives i low = absurd (omega (arith, low))
taken_at {A} h (x ∷ xs) gives zero low =
    let r = gives zero (omega arith) in
    ap (λ (vs : List A). slice_get vs zero) (cons_long (h x) (filter_map h xs) r.0 r.1) ∙ sym r.1
taken_at {A} h (x ∷ xs) gives (suc i) low =
    let r = gives zero (omega arith) in
    ap (λ (vs : List A). slice_get vs (suc i)) (cons_long (h x) (filter_map h xs) r.0 r.1)
    ∙ taken_at h xs (gives_later h x xs gives) i (omega (arith, low))

-- where a value stands in a list
got_among : (vs : List ℕ) (k v : ℕ) → slice_get vs k ≡ Some v → IsAmong v vs
got_among [] k v is = absurd (cc)
got_among (w ∷ ws) zero v is = inl (cc)
got_among (w ∷ ws) (suc k) v is = inr (got_among ws k v is)

got_once : (vs : List ℕ) → AreDistinct vs → (k l v : ℕ) → slice_get vs k ≡ Some v → slice_get vs l ≡ Some v → k ≡ l
got_once [] once k l v is too = absurd (cc)
got_once (w ∷ ws) once zero zero v is too = refl
got_once (w ∷ ws) once zero (suc l) v is too =
    let same : v ≡ w = cc in
    absurd (once.0 (subst (λ (u : ℕ). IsAmong u ws) same (got_among ws l v too)))
got_once (w ∷ ws) once (suc k) zero v is too =
    let same : v ≡ w = cc in
    absurd (once.0 (subst (λ (u : ℕ). IsAmong u ws) same (got_among ws k v is)))
got_once (w ∷ ws) once (suc k) (suc l) v is too = ap suc (got_once ws once.1 k l v is too)

got_place : (vs : List ℕ) (v : ℕ) → IsAmong v vs → (k : ℕ) × (slice_get vs k ≡ Some v) × (k < length vs)
got_place [] v a = absurd a
got_place (w ∷ ws) v a =
    ⊎_elim (λ (e : v ≡ w). (zero, ap Some (sym e), omega arith))
    (λ (b : IsAmong v ws). let r = got_place ws v b in (suc r.0, r.1, omega (arith, r.2))) a

then_some : {A : Type 0} (f : ℕ → Option A) (o : Option ℕ) (v : A) → option_and_then f o ≡ Some v
    → (k : ℕ) × (o ≡ Some k) × (f k ≡ Some v)
then_some f None v is = absurd (cc)
then_some f (Some k) v is = (k, refl, is)

module _ (wanted names : List Name) (values : List ℕ) where
  -- no value is taken that was not there
  pub none_else : (v : ℕ) → IsAmong v (in_order_of wanted names values) → IsAmong v values
  none_else v a =
      let r = among_taken (value_named names values) wanted v a in
      let p = then_some (slice_get values) (place_named names (get_or wanted r.0 None)) v r.2 in
      got_among values p.0 v p.2

  -- none is taken twice
  pub each_once : AreRight wanted → AreDistinct values → AreDistinct (in_order_of wanted names values)
  each_once right_wanted distinct =
      taken_once (value_named names values) wanted (λ i j v less low is too.
      let w = get_or wanted i None in
      let x = get_or wanted j None in
      let p = then_some (slice_get values) (place_named names w) v is in
      let q = then_some (slice_get values) (place_named names x) v too in
      let same : p.0 ≡ q.0 = got_once values distinct p.0 q.0 v p.2 q.2 in
      let name : w ≡ x =
      sym (found_is names w p.0 p.1) ∙ ap (λ (k : ℕ). get_or names k None) same ∙ found_is names x q.0 q.1 in
      let place : Some i ≡ Some j =
      sym (right_wanted i (omega (arith, less, low))) ∙ ap (place_named wanted) name ∙ right_wanted j low in
      let one : i ≡ j = cc in
      omega (arith, less, one))

  -- each value is taken
  pub all_there : AreRight names → AreFound wanted names → length values ≡ length names
      → (v : ℕ) → IsAmong v values → IsAmong v (in_order_of wanted names values)
  all_there right found long v a =
      let p = got_place values v a in
      let low : p.0 < length names = omega (arith, p.2, long) in
      let n = get_or names p.0 None in
      let q = found p.0 low in
      taken_among (value_named names values) wanted q.0 v (found_within wanted n q.0 q.1)
      (ap (value_named names values) (found_is wanted n q.0 q.1)
      ∙ ap (option_and_then (slice_get values)) (right p.0 low) ∙ p.1)

-- As many names of two lists, of which each list has no name twice, and one has each of the other's: then so has the
-- other.
module _ (wanted names : List Name) (right_wanted : AreRight wanted) (right : AreRight names)
    (found : AreFound wanted names) (many : length wanted ≡ length names) where
  abbrev places : List ℕ
  places = filter_map (place_named wanted) names

  places_once : AreDistinct places
  places_once =
      taken_once (place_named wanted) names (λ i j v less low is too.
      let n = get_or names i None in
      let m = get_or names j None in
      let name : n ≡ m = sym (found_is wanted n v is) ∙ found_is wanted m v too in
      let place : Some i ≡ Some j =
      sym (right i (omega (arith, less, low))) ∙ ap (place_named names) name ∙ right j low in
      let one : i ≡ j = cc in
      omega (arith, less, one))

  places_below : AllByRecursion (λ k. k < length wanted) places
  places_below =
      all_of (λ k. k < length wanted) places (λ k a.
      let r = among_taken (place_named wanted) names k a in
      found_within wanted (get_or names r.0 None) k r.2)

  pub wanted_found : AreFound names wanted
  wanted_found k low =
      ⊎_elim (λ (a : IsAmong k places).
      let r = among_taken (place_named wanted) names k a in
      let n = get_or names r.0 None in
      (r.0, ap (place_named names) (found_is wanted n k r.2) ∙ right r.0 r.1))
      (λ (no : ¬ IsAmong k places).
      let more : length (k ∷ places) ≤ length wanted =
      at_most_below (length wanted) (k ∷ places) (no, places_once) (low, places_below) in
      absurd (omega (arith, more, many, taken_long (place_named wanted) names found)))
      (among_or_not k places)

  -- so each name has a value
  pub gives_each : {A : Type 0} (d : A) (values : List A) → length values ≡ length names
      → GivesEach (value_named names values) wanted
  gives_each d values long k low =
      let r = wanted_found k low in
      let n = get_or wanted k None in
      let inside : r.0 < length values = omega (arith, found_within names n r.0 r.1, long) in (
        get_or values r.0 d,
        ap (option_and_then (slice_get values)) r.1 ∙ slice_get-get_or values r.0 d inside,
      )
