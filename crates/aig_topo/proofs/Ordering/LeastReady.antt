-- The least ready order: there is one, and there is no other; and how its gates are taken and counted.
use Rattle.std.proofs.Common.{◌≡◌, ◌≢◌, ◌<◌, ◌≤◌, ◌+◌, ◌∷◌, ◌⊎◌, ◌-◌, ◌∙◌, ◌++◌, rules, ℕ, zero, suc, List, [], length}
use Rattle.std.proofs.Common.{eqb, true, false, refl, sym, ap₂, subst, inl, inr, ⊎_elim, arith, cond, ap, get_or, ltb}
use Rattle.std.proofs.Common.{Bool, count_by, ltb-true, ltb-false, length-set, get_or-set_other, not}
use Rattle.std.specs.List.{AllByRecursion}
use Rattle.std.proofs.lemmas.Bool.{cases_lt}
use Rattle.std.proofs.lemmas.Bool.Decides.{eqb_tells}
use Rattle.std.proofs.lemmas.List.Sums.{sum_by-cons, sum_by-append, sum_by-set}
use Rattle.std.proofs.Math.ListN.{set as put}
use Rattle.aig_circuit.specs.declared.circuit.Circuit.{Circuit}
use Rattle.aig_circuit.specs.Wellformed.{IsAmong, AreDistinct}
use Rattle.aig_circuit.proofs.Checking.{all_weaker, at_most_below, among_decides}
use Rattle.aig_topo.specs.Order.{IsReady, TakesLeast, IsFull, IsLeastReadyOrder, gate_operands, left_over}
use Rattle.aig_topo.specs.Progress.{has_gate, Progress, CountsDown, CountsFor}
use Rattle.aig_topo.specs.Needs.{linked}
use Rattle.aig_topo.specs.Waiting.{HasAll, Suffices}

-- a number stands in a list or does not
pub among_or_not : (x : ℕ) (xs : List ℕ) → IsAmong x xs ⊎ (¬ IsAmong x xs)
among_or_not x [] = inr (λ a. a)
among_or_not x (y ∷ ys) =
    ⊎_elim (λ (t : (eqb x y ≡ true) × (x ≡ y)). inl (inl t.1))
    (λ (f : (eqb x y ≡ false) × (x ≢ y)). ⊎_elim (λ (i : IsAmong x ys). inl (inr i))
    (λ (o : ¬ IsAmong x ys). inr (λ a. ⊎_elim f.1 o a)) (among_or_not x ys))
    (eqb_tells x y)

all_or_not : (taken xs : List ℕ) → AllByRecursion (λ h. IsAmong h taken) xs
    ⊎ (¬ AllByRecursion (λ h. IsAmong h taken) xs)
all_or_not taken [] = inl tt
all_or_not taken (x ∷ xs) =
    ⊎_elim (λ (i : IsAmong x taken). search (rules, all_or_not taken xs))
    (λ (o : ¬ IsAmong x taken). inr (λ a. o a.0)) (among_or_not x taken)

module _ (count : ℕ) (needs : ℕ → List ℕ) where
  -- nothing is ready once the list is taken
  abbrev Ends : List ℕ → List ℕ → Type 0
  Ends taken [] = (g : ℕ) → ¬ IsReady count needs taken g
  Ends taken (x ∷ xs) = Ends (x ∷ taken) xs

  same_list : (taken xs ys : List ℕ) → TakesLeast count needs taken xs → Ends taken xs → TakesLeast count needs taken ys
      → Ends taken ys → xs ≡ ys
  same_list taken [] [] in_turn ends in_turn_too ends_too = refl
  same_list taken [] (y ∷ ys) in_turn ends in_turn_too ends_too = absurd (ends y in_turn_too.0)
  same_list taken (x ∷ xs) [] in_turn ends in_turn_too ends_too = absurd (ends_too x in_turn.0)
  same_list taken (x ∷ xs) (y ∷ ys) in_turn ends in_turn_too ends_too =
      let first : y ≡ x = omega (arith, in_turn.1 y in_turn_too.0, in_turn_too.1 x in_turn.0) in
      ap₂ (λ z zs. z ∷ zs) (sym first)
      (same_list (x ∷ taken) xs ys in_turn.2 ends
      (rw first at in_turn_too.2)
      (rw first at ends_too))

  -- the gates of a list are those taken before and those of what is left of it
  abbrev Has : List ℕ → List ℕ → List ℕ → Type 0
  Has list taken xs = ((h : ℕ) → IsAmong h taken → IsAmong h list)
      × ((h : ℕ) → IsAmong h list → IsAmong h taken ⊎ IsAmong h xs)

  moved : (list taken xs : List ℕ) (x : ℕ) → IsAmong x list → Has list taken (x ∷ xs) → Has list (x ∷ taken) xs
  moved list taken xs x there has = (
    λ h a. ⊎_elim (λ (e : h ≡ x). rw e there) (λ (b : IsAmong h taken). has.0 h b) a,
    search rules,
  )

  ends_where_full : (list taken xs : List ℕ) → ((h : ℕ) → IsAmong h xs → IsAmong h list) → Has list taken xs
      → IsFull count needs list → Ends taken xs
  ends_where_full list taken [] rest has full = search (rules, all_weaker)
  ends_where_full list taken (x ∷ xs) rest has full =
      ends_where_full list (x ∷ taken) xs (λ h a. rest h (inr a)) (moved list taken xs x (rest x (inl refl)) has) full

  full_where_it_ends : (list taken xs : List ℕ) → ((h : ℕ) → IsAmong h xs → IsAmong h list) → Has list taken xs
      → Ends taken xs → IsFull count needs list
  full_where_it_ends list taken [] rest has ends = search (rules, all_weaker, among_or_not)
  full_where_it_ends list taken (x ∷ xs) rest has ends =
      full_where_it_ends list (x ∷ taken) xs (λ h a. rest h (inr a)) (moved list taken xs x (rest x (inl refl)) has)
      ends

  whole : (list : List ℕ) → Has list [] list
  whole list = (λ h a. absurd a, λ h a. inr a)

  one_order : (xs ys : List ℕ) → TakesLeast count needs [] xs → IsFull count needs xs → TakesLeast count needs [] ys
      → IsFull count needs ys → xs ≡ ys
  one_order xs ys in_turn full in_turn_too full_too = search (rules, same_list, ends_where_full, whole)

  ready_or_not : (taken : List ℕ) (g : ℕ) → g < count → IsReady count needs taken g ⊎ (¬ IsReady count needs taken g)
  ready_or_not taken g there = search (rules, all_or_not, among_or_not)

  abbrev IsLeast : List ℕ → ℕ → Type 0
  IsLeast taken g = IsReady count needs taken g × ((h : ℕ) → h < g → ¬ IsReady count needs taken h)

  -- the least gate below n that is ready, or none is
  least_below : (taken : List ℕ) (n : ℕ) → n ≤ count → ((g : ℕ) × IsLeast taken g)
      ⊎ ((h : ℕ) → h < n → ¬ IsReady count needs taken h)
  least_below taken zero few = inr (λ h l. absurd (omega arith))
  least_below taken (suc n) few =
      ⊎_elim (λ found. inl found) (λ (none : (h : ℕ) → h < n → ¬ IsReady count needs taken h).
      ⊎_elim (λ (ready : IsReady count needs taken n). inl (n, (ready, none)))
      (λ (out : ¬ IsReady count needs taken n). inr (λ h l ready.
      ⊎_elim (λ (below : h < n). none h below ready)
      (λ (above : n ≤ h). let e : h ≡ n = omega (arith, above, l) in
      out (subst (IsReady count needs taken) e ready)) (cases_lt h n)))
      (ready_or_not taken n (omega arith))
      ) (least_below taken n (omega arith))

  -- an order from what is taken on, where so many more can be taken at most
  from : (fuel : ℕ) (taken : List ℕ) → AreDistinct taken → AllByRecursion (λ g. g < count) taken
      → count ≤ length taken + fuel → (xs : List ℕ) × (TakesLeast count needs taken xs × Ends taken xs)
  from zero taken once below enough = (
    [],
    (
      tt,
      λ g ready.
          absurd (omega (arith, at_most_below count (g ∷ taken) (ready.left, once) (ready.there, below), enough)),
    ),
  )
  from (suc fuel) taken once below enough =
      ⊎_elim (λ (found : (g : ℕ) × IsLeast taken g).
      let g : ℕ = found.0 in
      let ready : IsReady count needs taken g = found.1.0 in
      let later = from fuel (g ∷ taken) (ready.left, once) (ready.there, below) (omega (arith, enough)) in (
        g ∷ later.0,
        (
          (
            ready,
            λ h h_ready. ⊎_elim (λ (l : h < g). absurd (found.1.1 h l h_ready)) (λ (l : g ≤ h). l) (cases_lt h g),
            later.1.0,
          ),
          later.1.1,
        ),
      )) (search rules)
      (least_below taken count (omega arith))

  an_order : (xs : List ℕ) × (TakesLeast count needs [] xs × IsFull count needs xs)
  an_order =
      let made : (xs : List ℕ) × (TakesLeast count needs [] xs × Ends [] xs) = from count [] tt tt (omega arith) in
      (made.0, (made.1.0, full_where_it_ends made.0 [] made.0 (λ h a. a) (whole made.0) made.1.1))

pub one_least_ready_order : (c : Circuit) (xs ys : List ℕ) → IsLeastReadyOrder c xs → IsLeastReadyOrder c ys → xs ≡ ys
one_least_ready_order c xs ys first second =
    one_order (length c.gates) (gate_operands c.gates) xs ys first.in_turn first.full second.in_turn second.full

pub a_least_ready_order : (c : Circuit) → (list : List ℕ) × IsLeastReadyOrder c list
a_least_ready_order c =
    let made = an_order (length c.gates) (gate_operands c.gates) in
    (made.0, record { in_turn = made.1.0; full = made.1.1 })

-- How many gates are left over: those that a list does not have.
left-cons : (list : List ℕ) (x : ℕ) (xs : List ℕ)
    → left_over list (x ∷ xs) ≡ cond (not (has_gate list x)) 1 0 + left_over list xs
left-cons list x xs = sum_by-cons (λ h. cond (not (has_gate list h)) 1 0) x xs

-- one that the list has, and one that it lacks
pub listed_first : (list : List ℕ) (x : ℕ) (xs : List ℕ) → IsAmong x list → left_over list (x ∷ xs) ≡ left_over list xs
listed_first list x xs a =
    omega (arith, left-cons list x xs, ap {B = ℕ} (λ b. cond (not b) 1 0) ((among_decides x list).1 a))

pub missing_first : (list : List ℕ) (x : ℕ) (xs : List ℕ) → ¬ IsAmong x list
    → left_over list (x ∷ xs) ≡ suc (left_over list xs)
missing_first list x xs out = search (rules, left-cons list x xs, among_decides)

-- where none is left over, all are in the list, and the other way round
pub none_left : (list xs : List ℕ) → left_over list xs ≡ 0 → AllByRecursion (λ h. IsAmong h list) xs
none_left list [] e = tt
none_left list (x ∷ xs) e =
    ⊎_elim (λ (a : IsAmong x list). (a, none_left list xs (sym (listed_first list x xs a) ∙ e)))
    (λ (out : ¬ IsAmong x list). absurd (omega (arith, e, missing_first list x xs out))) (among_or_not x list)

pub all_in : (list xs : List ℕ) → AllByRecursion (λ h. IsAmong h list) xs → left_over list xs ≡ 0
all_in list [] all = refl
all_in list (x ∷ xs) all = listed_first list x xs all.0 ∙ all_in list xs all.1

-- where a list lacks none, a longer one lacks none
pub still_none : (list more xs : List ℕ) → HasAll list more → left_over list xs ≡ 0 → left_over more xs ≡ 0
still_none list more xs has_all e =
    all_in more xs (all_weaker (λ h. IsAmong h list) (λ h. IsAmong h more) has_all xs (none_left list xs e))

-- those that a list has and those that it does not have are all
pub has_or_not : (list xs : List ℕ) → left_over list xs + count_by (has_gate list) xs ≡ length xs
has_or_not list [] = refl
has_or_not list (x ∷ xs) =
    let one : cond (not (has_gate list x)) 1 0 + cond (has_gate list x) 1 0 ≡ 1 =
    elim (has_gate list x) as (λ b. cond (not b) 1 0 + cond b 1 0 ≡ 1) [ true ↦ refl | false ↦ refl ] in
    let has_is = sum_by-cons (λ h. cond (has_gate list h) 1 0) x xs in
    omega (arith, one, left-cons list x xs, has_is, has_or_not list xs)

pub link_is : (link : ℕ) → 0 < link → linked link ≡ (link - 1) ∷ []
link_is zero some = absurd (omega (arith, some))
link_is (suc position) some = ap (λ p. p ∷ []) (omega arith)

-- where a link leads to one that is left over, there is one
pub some_left : (list : List ℕ) (link : ℕ) → 0 < left_over list (linked link)
    → (0 < link) × (¬ IsAmong (link - 1) list) × (left_over list (linked link) ≡ 1)
some_left list zero some = absurd (omega (arith, some))
some_left list (suc position) some =
    let out : ¬ IsAmong position list = λ a. omega (arith, some, listed_first list position [] a) in
    search (rules, missing_first)

-- Gates are taken, the least ready one each time.
module _ (count : ℕ) (needs : ℕ → List ℕ) where
  not_before : (taken xs : List ℕ) → TakesLeast count needs taken xs → (g : ℕ) → IsAmong g xs → ¬ IsAmong g taken
  not_before taken [] in_turn g a b = absurd a
  not_before taken (x ∷ xs) in_turn g a b =
      ⊎_elim (λ (e : g ≡ x). in_turn.0.left (rw e at b))
      (λ (later : IsAmong g xs). not_before (x ∷ taken) xs in_turn.2 g later (inr b)) a

  distinct : (taken xs : List ℕ) → TakesLeast count needs taken xs → AreDistinct xs × AllByRecursion (λ g. g < count) xs
  distinct taken [] in_turn = (tt, tt)
  distinct taken (x ∷ xs) in_turn =
      let later = distinct (x ∷ taken) xs in_turn.2 in
      ((λ a. not_before (x ∷ taken) xs in_turn.2 x a (inl refl), later.0), (in_turn.0.there, later.1))

  pub no_longer : (xs : List ℕ) → TakesLeast count needs [] xs → length xs ≤ count
  no_longer xs in_turn = let d = distinct [] xs in_turn in at_most_below count xs d.0 d.1

  -- a list of as many gates as there are has them all
  pub has_each : (xs : List ℕ) → TakesLeast count needs [] xs → length xs ≡ count → (g : ℕ) → g < count → IsAmong g xs
  has_each xs in_turn full g there =
      let d = distinct [] xs in_turn in
      ⊎_elim (λ (a : IsAmong g xs). a)
      (λ (out : ¬ IsAmong g xs).
      absurd (omega (arith, full, at_most_below count (g ∷ xs) (out, d.0) (there, d.1)))) (among_or_not g xs)

  -- one more gate at the end
  pub at_the_end : (taken xs list : List ℕ) (g : ℕ) → ((h : ℕ) → IsAmong h taken ⊎ IsAmong h xs → IsAmong h list)
      → ((h : ℕ) → IsAmong h list → IsAmong h taken ⊎ IsAmong h xs) → TakesLeast count needs taken xs
      → IsReady count needs list g → ((h : ℕ) → IsReady count needs list h → g ≤ h)
      → TakesLeast count needs taken (xs ++ g ∷ [])
  at_the_end taken [] list g to from in_turn ready least = search (rules, all_weaker)
  at_the_end taken (x ∷ xs) list g to from in_turn ready least = (
    in_turn.0,
    in_turn.1,
    at_the_end (x ∷ taken) xs list g
        (search rules)
        (search rules)
        in_turn.2 ready least,
  )

-- What is asked of a gate, and how that is counted.

-- one operand is counted, or first some and then some
pub counts_one : (gate : ℕ) (old new : Progress) → gate < length old.waiting → 0 < get_or old.waiting gate 0
    → new.waiting ≡ put old.waiting gate (get_or old.waiting gate 0 - 1) → new.steps ≡ old.steps + 1
    → new.list ≡ old.list → CountsFor gate old new
counts_one gate old new there some waiting steps list = search (rules, length-set, sum_by-set, get_or-set_other)

counts_more : (old mid new : Progress) → CountsDown old mid → CountsDown mid new → CountsDown old new
counts_more old mid new first later = record {
  list = later.list ∙ first.list;
  as_many = later.as_many ∙ first.as_many;
  paid = later.paid ∙ first.paid;
}

counts_again : (gate : ℕ) (old mid new : Progress) → CountsFor gate old mid → CountsFor gate mid new
    → CountsFor gate old new
counts_again gate old mid new first later = record {
  down = counts_more old mid new first.down later.down;
  others = λ u other. later.others u other ∙ first.others u other;
}

-- where the first link leads to none that is left over, the second is all that is asked for
pub second_enough : (list later : List ℕ) (left right : ℕ) (b more : Bool)
    → b ≡ ltb 0 (left_over list (linked left)) → b ≡ false
    → more ≡ ltb 0 (left_over later (linked right)) → more ≡ true
    → Suffices list (linked left ++ linked right) ((right - 1) ∷ [])
second_enough list later left right b more told is told_too is_too further has_all =
    let none : left_over list (linked left) ≡ 0 =
    omega (arith, ltb-false 0 (left_over list (linked left)) (sym told ∙ is)) in
    let some = some_left later right (ltb-true 0 (left_over later (linked right)) (sym told_too ∙ is_too)) in
    search (
      rules,
      still_none list further (linked left) has_all none,
      ap (left_over further) (link_is right some.0),
      sum_by-append,
    )
