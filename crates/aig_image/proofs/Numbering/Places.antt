-- Places in lists without repeats, and the new numbers of variables by them.
use Rattle.std.proofs.Common.{◌≡◌, ◌<◌, ◌∷◌, ◌++◌, ◌≤◌, ◌∙◌, ◌≢◌, ◌+◌, ◌⊎◌, rules, ℕ, zero, suc, List, [], length}
use Rattle.std.proofs.Common.{get_or, refl, sym, ap, inl, inr, ⊎_elim, arith, eqb, subst, true, false, not}
use Rattle.std.proofs.Common.{length-append, map, ap₂, append_assoc, set}
use Rattle.std.specs.List.{AllByRecursion, position_or_len, range_with_len}
use Rattle.std.proofs.lemmas.List.{length-map, get_or-map, ext_get_or, get_or-set_other}
use Rattle.std.proofs.lemmas.Grind.{get_or-set_at}
use Rattle.std.proofs.lemmas.Bool.{ne_eqb, eq-eqb, cases_lt}
use Rattle.std.proofs.lemmas.List.FromFn.{length-map-range_with_len, get_or-map-range_with_len}
use Rattle.std.proofs.lemmas.List.Sums.{position_or_len_is, prefix_len-le-length, prefix_len_stops}
use Rattle.std.proofs.Math.ListN.{get_or-append}
use Rattle.std.proofs.Math.Seq.{get_or-append_seam}
use Rattle.std.proofs.lemmas.Bool.Decides.{eqb_tells}
use Rattle.aig_circuit.specs.declared.circuit.Gate.{Gate}
use Rattle.aig_circuit.specs.Wellformed.{IsAmong, AreDistinct}
use Rattle.aig_circuit.proofs.Checking.{each, at_most_below}
use Rattle.aig_topo.proofs.Ordering.Counted.{among_either, among_first}
use Rattle.aig_topo.proofs.Ordering.Cyclic.{among_last}
use Rattle.aig_topo.proofs.Ordering.Ranked.{at, no_gate, variables}
use Rattle.aig_topo.proofs.Ordering.LeastReady.{among_or_not}
use Rattle.aig_image.specs.Reordered.{ArePlaces, positions_of}
use Rattle.aig_image.specs.Renumbering.{renumbered, source_variable}

-- what is in a list stands somewhere
pub somewhere : (x : ℕ) (xs : List ℕ) → IsAmong x xs → (j : ℕ) × (j < length xs) × (get_or xs j 0 ≡ x)
somewhere x [] a = absurd a
somewhere x (y ∷ xs) a =
    ⊎_elim (λ (e : x ≡ y). (zero, omega arith, sym e))
    (λ (i : IsAmong x xs).
    let later = somewhere x xs i in
    let below : later.0 < length xs = later.1 in
    (suc later.0, omega (arith, below), later.2)) a

-- a variable of gates is that of one of them
pub place_there : (gates : List Gate) (v : ℕ) → IsAmong v (variables gates)
    → (p : ℕ) × (p < length gates) × ((at gates p).var ≡ v)
place_there gates v a = search (rules, somewhere, variables, length-map, get_or-map, no_gate)

-- what stands at a place is in the list
pub here : (xs : List ℕ) (j : ℕ) → j < length xs → IsAmong (get_or xs j 0) xs
here [] j below = absurd (omega arith)
here (x ∷ xs) zero below = inl refl
here (x ∷ xs) (suc j) below = inr (here xs j (omega arith))

module _ {X : Type 0} (P : X → Type 0) (default : X) where
  -- what holds of all holds of what stands at a place, and the other way about
  pub at_place : (xs : List X) → AllByRecursion P xs → (i : ℕ) → i < length xs → P (get_or xs i default)
  at_place [] all i below = absurd (omega arith)
  at_place (x ∷ xs) all zero below = all.0
  at_place (x ∷ xs) all (suc i) below = at_place xs all.1 i (omega (arith, below))

  pub by_places : (xs : List X) → ((i : ℕ) → i < length xs → P (get_or xs i default)) → AllByRecursion P xs
  by_places [] each = tt
  by_places (x ∷ xs) each = (each zero (omega arith), by_places xs (λ i below. each (suc i) (omega (arith, below))))

-- a table where one more was put to its place, which none of those before it has
pub put_more : {X : Type 0} (place : ℕ → ℕ) (f : ℕ → X) (d : X) (table : List X) (k : ℕ) → place k < length table
    → ((i : ℕ) → i < k → place i ≢ place k) → ((i : ℕ) → i < k → get_or table (place i) d ≡ f i)
    → (i : ℕ) → i < k + 1 → get_or (set table (place k) (f k)) (place i) d ≡ f i
put_more place f d table k there apart has i below =
    ⊎_elim (λ (b : i < k). get_or-set_other table (place k) (place i) (f k) d (apart i b) ∙ has i b)
    (λ (e : k ≤ i).
    let same : i ≡ k = omega (arith, e, below) in
    get_or-set_at table (place k) (place i) (f k) d (ap place same) there ∙ ap f (sym same))
    (cases_lt i k)

-- numbers are distinct exactly where each stands at one place
pub same_place : (xs : List ℕ) → AreDistinct xs → (i k : ℕ) → i < length xs → k < length xs
    → get_or xs i 0 ≡ get_or xs k 0 → i ≡ k
same_place [] once i k below below_too e = absurd (omega (arith, below))
same_place (x ∷ xs) once zero zero below below_too e = refl
same_place (x ∷ xs) once zero (suc k) below below_too e = search (rules, here)
same_place (x ∷ xs) once (suc i) zero below below_too e = search (rules, here)
same_place (x ∷ xs) once (suc i) (suc k) below below_too e =
    ap suc (same_place xs once.1 i k (omega (arith, below)) (omega (arith, below_too)) e)

pub distinct_by_places : (xs : List ℕ)
    → ((i k : ℕ) → i < length xs → k < length xs → get_or xs i 0 ≡ get_or xs k 0 → i ≡ k) → AreDistinct xs
distinct_by_places [] once = tt
distinct_by_places (x ∷ xs) once = (
  λ a. let later = somewhere x xs a in
      let below : later.0 < length xs = later.1 in
      let same : zero ≡ suc later.0 = once zero (suc later.0) (omega arith) (omega (arith, below)) (sym later.2) in
      omega (arith, same),
  distinct_by_places xs (λ i k below below_too e.
      let same : suc i ≡ suc k = once (suc i) (suc k) (omega (arith, below)) (omega (arith, below_too)) e in
      omega (arith, same)),
)

-- other numbers after the same front, all of which stood there
pub swapped_last : (xs ys zs : List ℕ) → AreDistinct (xs ++ ys) → AreDistinct zs
    → ((x : ℕ) → IsAmong x zs → IsAmong x ys) → AreDistinct (xs ++ zs)
swapped_last [] ys zs once last within = last
swapped_last (x ∷ xs) ys zs once last within = (
  λ a. ⊎_elim (λ (i : IsAmong x xs). once.0 (among_first x xs ys i))
      (λ (i : IsAmong x zs). once.0 (among_last xs ys x (within x i))) (among_either x xs zs a),
  swapped_last xs ys zs once.1 last within,
)

-- and what is among both is among those after the front too
pub among_swapped : (xs ys zs : List ℕ) → ((x : ℕ) → IsAmong x ys → IsAmong x zs)
    → (x : ℕ) → IsAmong x (xs ++ ys) → IsAmong x (xs ++ zs)
among_swapped [] ys zs within x a = within x a
among_swapped (z ∷ xs) ys zs within x a =
    ⊎_elim (λ (e : x ≡ z). inl e) (λ (i : IsAmong x (xs ++ ys)). inr (among_swapped xs ys zs within x i)) a

-- Distinct places below their count are each that of one position.

-- in a list without repeats, the first place of a number is the one where it stands
place_is : (xs : List ℕ) → AreDistinct xs → (i : ℕ) → i < length xs
    → position_or_len (λ w. eqb w (get_or xs i 0)) xs ≡ i
place_is xs once i below =
    let x : ℕ = get_or xs i 0 in
    position_or_len_is (λ w. eqb w x) xs i 0 (omega (arith, below))
    (search (rules, ne_eqb, same_place))
    (λ _. eq-eqb x x refl)

-- distinct numbers below n, as many as n, are all of them
pub all_below : (n : ℕ) (ps : List ℕ) → AreDistinct ps → AllByRecursion (λ p. p < n) ps → length ps ≡ n
    → (p : ℕ) → p < n → IsAmong p ps
all_below n ps once below many p low =
    ⊎_elim (λ (i : IsAmong p ps). i)
    (λ (out : ¬ IsAmong p ps).
    let fit : length (p ∷ ps) ≤ n = at_most_below n (p ∷ ps) (out, once) (low, below) in
    absurd (omega (arith, fit, many)))
    (among_or_not p ps)

module _ (places : List ℕ) (once : AreDistinct places) (all : AllByRecursion (λ p. p < length places) places) where
  abbrev position : ℕ → ℕ
  position place = position_or_len (λ p. eqb p place) places

  read : (p : ℕ) → p < length places → get_or (positions_of places) p 0 ≡ position p
  read p below = get_or-map-range_with_len position 0 (length places) p p 0 below (omega arith)

  pub places_have_positions : ArePlaces (positions_of places) places (length places)
      × ArePlaces places (positions_of places) (length places)
  places_have_positions =
      let long = length-map-range_with_len position 0 (length places) in (
        (
          refl,
          λ i below.
              let low = each (λ p. p < length places) places all (get_or places i 0) (here places i below) in
              (omega (arith, low, long), read (get_or places i 0) low ∙ place_is places once i below),
        ),
        (
          long,
          λ p below.
              let stands = somewhere p places (all_below (length places) places once all refl p below) in
              let same = read p below ∙ ap position (sym stands.2) ∙ place_is places once stands.0 stands.1 in
              search rules,
        ),
      )

-- the same of as many places as there are others
pub have_positions : (n : ℕ) (places : List ℕ) → AreDistinct places → AllByRecursion (λ p. p < n) places
    → length places ≡ n → ArePlaces (positions_of places) places n × ArePlaces places (positions_of places) n
have_positions n places once all many = subst (λ k. AllByRecursion (λ p. p < k) places
    → ArePlaces (positions_of places) places k × ArePlaces places (positions_of places) k)
    many (places_have_positions places once) all

-- what has places has distinct ones
pub places_apart : (order places : List ℕ) (count : ℕ) → ArePlaces order places count → AreDistinct places
places_apart order places count are = search (rules, distinct_by_places)

-- where places are those of an order, and the other way about, their positions are the order
pub positions_are : (order places : List ℕ) (count : ℕ) → ArePlaces order places count → ArePlaces places order count
    → positions_of places ≡ order
positions_are order places count are too =
    let position : ℕ → ℕ = λ place. position_or_len (λ p. eqb p place) places in
    let long : length (positions_of places) ≡ length places = length-map-range_with_len position 0 (length places) in
    ext_get_or 0 (positions_of places) order (omega (arith, long, are.0, too.0)) (λ p below.
    let here = too.1 p (omega (arith, below, long, are.0)) in
    get_or-map-range_with_len position 0 (length places) p p 0 (omega (arith, below, long)) (omega arith)
    ∙ ap position (sym here.1)
    ∙ place_is places (places_apart order places count are) (get_or order p 0) here.0)

-- New numbers of variables: places in a list without repeats.
abbrev place : List ℕ → ℕ → ℕ
place xs v = position_or_len (λ w. eqb w v) xs

-- what has a place in a list stands there
has_place : (xs : List ℕ) (v : ℕ) → place xs v < length xs → get_or xs (place xs v) 0 ≡ v
has_place xs v within = search (rules, prefix_len_stops, eqb_tells)

-- and what is not in the list has none
pub no_place : (v : ℕ) (xs : List ℕ) → ¬ IsAmong v xs → place xs v ≡ length xs
no_place v xs out =
    ⊎_elim
    (λ (b : place xs v < length xs). absurd
    (out (subst (λ w. IsAmong w xs) (has_place xs v b) (here xs (place xs v) b))))
    (λ (n : length xs ≤ place xs v). omega (arith, n, prefix_len-le-length (λ w. not (eqb w v)) xs))
    (cases_lt (place xs v) (length xs))

module _ (vs : List ℕ) (once : AreDistinct vs) where
  -- a variable's number is one more than its place
  pub number_at : (j : ℕ) → j < length vs → 1 ≤ get_or vs j 0 → renumbered vs (get_or vs j 0) ≡ 1 + j
  number_at j below some =
      rw (ne_eqb (get_or vs j 0) 0 (λ e. absurd (omega (arith, some, e)))) (ap (λ n. 1 + n) (place_is vs once j below))

  pub number_of : (pre post : List ℕ) (v : ℕ) → 1 ≤ v → vs ≡ pre ++ v ∷ post → renumbered vs v ≡ 1 + length pre
  number_of pre post v some are =
      let there = ap (λ xs. get_or xs (length pre) 0) are ∙ get_or-append_seam pre v post 0 in
      search (rules, length-append, number_at)

  -- a constant, or a variable of the first ones, has a number of theirs
  pub number_within : (pre post : List ℕ) (v : ℕ) → vs ≡ pre ++ post → (v ≡ 0) ⊎ IsAmong v pre
      → renumbered vs v ≤ length pre
  number_within pre post v are known =
      ⊎_elim (λ (t : (eqb v 0 ≡ true) × (v ≡ 0)). rw t.0 (omega arith))
      (λ (f : (eqb v 0 ≡ false) × (v ≢ 0)).
      let stands = somewhere v pre (⊎_elim (λ (e : v ≡ 0). absurd (f.1 e)) (λ (i : IsAmong v pre). i) known) in
      let low : stands.0 < length pre = stands.1 in
      let there = ap (λ xs. get_or xs stands.0 0) are ∙ get_or-append pre post 0 stands.0 low ∙ stands.2 in
      let below : stands.0 < length vs = omega (arith, low, ap length are, length-append pre post) in
      let placed : place vs v ≡ stands.0 = ap (place vs) (sym there) ∙ place_is vs once stands.0 below in
      rw f.0 (omega (arith, placed, low)))
      (eqb_tells v 0)

-- variables that follow on one another in the list are numbered on
pub numbered_on : (vs pre mid post : List ℕ) → AreDistinct vs → AllByRecursion (λ v. 1 ≤ v) mid
    → vs ≡ pre ++ (mid ++ post) → map (renumbered vs) mid ≡ range_with_len (1 + length pre) (length mid)
numbered_on vs pre [] post once some are = refl
numbered_on vs pre (x ∷ mid) post once some are =
    let next : 1 + length (pre ++ x ∷ []) ≡ 1 + length pre + 1 = omega (arith, length-append pre (x ∷ [])) in
    ap₂ (λ (n : ℕ) (ns : List ℕ). n ∷ ns) (number_of vs once pre (mid ++ post) x some.0 are)
    (numbered_on vs (pre ++ x ∷ []) mid post once some.1 (are ∙ sym (append_assoc pre (x ∷ []) (mid ++ post)))
    ∙ ap (λ k. range_with_len k (length mid)) next)

-- one place further, after one more
pub further : (w n : ℕ) (vs : List ℕ) → get_or (w ∷ vs) (1 + n) 0 ≡ get_or vs n 0
further w n vs = search rules

-- what is in a list stands at its place
found_there : (v : ℕ) (vs : List ℕ) → IsAmong v vs → get_or vs (position_or_len (λ w. eqb w v) vs) 0 ≡ v
found_there v [] a = absurd a
found_there v (w ∷ vs) a =
    ⊎_elim (λ (t : (eqb w v ≡ true) × (w ≡ v)). rw t.0 t.1)
    (λ (f : (eqb w v ≡ false) × (w ≢ v)).
    let among : IsAmong v vs = search rules in
    rw f.0 (further w (position_or_len (λ x. eqb x v) vs) vs ∙ found_there v vs among))
    (eqb_tells w v)

-- the number that a place gives, carried back
pub by_place : (vs : List ℕ) (n : ℕ) → source_variable vs (1 + n) ≡ get_or vs n 0
by_place vs n = search rules

module _ (vs : List ℕ) where
  pub back_variable : (v : ℕ) → (v ≡ 0) ⊎ IsAmong v vs → source_variable vs (renumbered vs v) ≡ v
  back_variable v known = search (rules, by_place, found_there, eqb_tells)

module _ (vs : List ℕ) (once : AreDistinct vs) (some : (v : ℕ) → IsAmong v vs → 1 ≤ v) where
  pub back_again : (n : ℕ) → n ≤ length vs → renumbered vs (source_variable vs n) ≡ n
  back_again zero fits = refl
  back_again (suc k) fits =
      let below : k < length vs = omega (arith, fits) in
      let next : 1 + k ≡ suc k = omega arith in
      subst (λ n. renumbered vs (source_variable vs n) ≡ n) next
      (search (rules, by_place, number_at, here))
