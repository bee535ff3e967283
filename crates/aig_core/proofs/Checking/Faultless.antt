-- A circuit without a fault is well formed, and a well-formed circuit has no fault.
use Rattle.std.proofs.Common.{◌≡◌, ◌∷◌, ◌∙◌, ◌⊎◌, ◌↔◌, ◌%◌, ◌<◌, ◌++◌, ◌≢◌, ◌||◌, rules, ℕ, List, [], eqb, Bool, true}
use Rattle.std.proofs.Common.{false, cond, Option, None, Some, refl, sym, ap, subst, inl, inr, ⊎_elim, IsTrue, arith}
use Rattle.std.proofs.Common.{length, slice_index_or, slice_set, take, filter, flat_map, nat_cmp, option_map, map-id}
use Rattle.std.proofs.Common.{append-nil, get_or-set_other, get_or-set_same, length-set, eq-eqb, ne_eqb}
use Rattle.std.specs.List.{AllByRecursion}
use Rattle.std.specs.Ordering.{eq_by_cmp}
use Rattle.std.specs.Cmp.{eq_by_cmp_equiv, unsigned_tied}
use Rattle.std.specs.FinSet as set
use Rattle.std.specs.FinSet.{FinSet, contains-insert, contains-empty}
use Rattle.std.specs.Option.{option_or}
use Rattle.std.proofs.lemmas.Bool.Decides.{Decides-eqb}
use Rattle.std.proofs.lemmas.Cmp.{nat_cmp_total}
use Rattle.std.proofs.lemmas.List.Concat.{flat_map_single}
use Rattle.std.proofs.Math.Seq.{take-append_seam}
use Rattle.std.proofs.lemmas.List.Elements.{filter-append}
use Rattle.std.proofs.lemmas.Bool.{cases_eq}
use Rattle.aig_circuit.specs.declared.circuit.Circuit.{Circuit}
use Rattle.aig_circuit.specs.Wellformed.{IsAmong, AreDistinct, IsKnown, HasRank, IsWellFormed, defined_variables}
use Rattle.aig_circuit.specs.Wellformed.{used_literals}
use Rattle.aig_circuit.specs.Form.{IsInForm}
use Rattle.aig_circuit.proofs.Checking.{defined_gates, defined_inputs, defined_is, defined_latches}
use Rattle.aig_topo.specs.Order.{first_cyclic}
use Rattle.aig_topo.proofs.Ordering.LeastReady.{a_least_ready_order}
use Rattle.aig_topo.proofs.Ordering.Ranked.{rank_exactly_where_all_are_ordered}
use Rattle.aig_topo.proofs.Ordering.Cyclic.{none_cyclic, all_listed_where_none}
use Rattle.aig_fault.specs.declared.fault.Fault.{Fault}
use Rattle.aig_fault.specs.declared.stopped.Stopped.{Stopped}
use Rattle.aig_fault.specs.declared.stopped.Stopped.TheVariants.{OutOfMemory, Refused}
use Rattle.aig_core.specs.Fault.{redefined, undefined, cyclic}
use Rattle.aig_core.specs.Fault.{IsFault, first_repeat, first_redefinition, first_unknown, with_all, is_known}
use Rattle.aig_core.specs.Fault.{first_structural_fault}
use Rattle.aig_core.specs.Parts.Parted.{AreParts, is_in_part}

same_is_equal : (x : ℕ) → eq_by_cmp nat_cmp x x ≡ true
same_is_equal x = (eq_by_cmp_equiv nat_cmp_total).refl x

has_new : (s : FinSet nat_cmp) (x : ℕ) → set.contains (set.insert s x) x ≡ true
has_new s x = contains-insert nat_cmp_total s x x ∙ ap (λ b. b || set.contains s x) (same_is_equal x)

or_true : (a b : Bool) → b ≡ true → (a || b) ≡ true
or_true true b e = refl
or_true false b e = e

has_old : (s : FinSet nat_cmp) (x y : ℕ) → set.contains s y ≡ true → set.contains (set.insert s x) y ≡ true
has_old s x y h = contains-insert nat_cmp_total s x y ∙ or_true _ _ h

-- what a set with one more has is that one, or was there
was_there : (s : FinSet nat_cmp) (x y : ℕ) → set.contains (set.insert s x) y ≡ true
    → (y ≡ x) ⊎ (set.contains s y ≡ true)
was_there s x y h =
    elim (eqb y x) as (λ b. eqb y x ≡ b → (b || set.contains s y) ≡ true → (y ≡ x) ⊎ (set.contains s y ≡ true)) [
      | true ↦ λ e _. inl ((Decides-eqb y x).0 e)
      | false ↦ λ _ e. inr e
    ] refl (sym (contains-insert nat_cmp_total s x y ∙ ap (λ b. b || set.contains s y) (unsigned_tied y x)) ∙ h)

-- the first of no repeat is new, and no other is a repeat
pub no_repeat : (s : FinSet nat_cmp) (x : ℕ) (xs : List ℕ) → first_repeat s (x ∷ xs) ≡ None → (set.contains s x ≡ false)
    × (first_repeat (set.insert s x) xs ≡ None)
no_repeat s x xs h = search rules

pub apart : (s : FinSet nat_cmp) (xs : List ℕ) → first_repeat s xs ≡ None → (y : ℕ) → set.contains s y ≡ true
    → ¬ IsAmong y xs
apart s [] none y has a = a
apart s (x ∷ xs) none y has a =
    let n : (set.contains s x ≡ false) × (first_repeat (set.insert s x) xs ≡ None) = no_repeat s x xs none in
    ⊎_elim (λ (e : y ≡ x). let f : set.contains s x ≡ true = subst (λ z. set.contains s z ≡ true) e has in
    let g : set.contains s x ≡ false = n.0 in cc)
    (apart (set.insert s x) xs n.1 y (has_old s x y has)) a

pub distinct : (s : FinSet nat_cmp) (xs : List ℕ) → first_repeat s xs ≡ None → AreDistinct xs
distinct s [] none = tt
distinct s (x ∷ xs) none =
    let n : (set.contains s x ≡ false) × (first_repeat (set.insert s x) xs ≡ None) = no_repeat s x xs none in
    (apart (set.insert s x) xs n.1 x (has_new s x), distinct (set.insert s x) xs n.1)

-- a test that is not true is false
pub not_true : (b : Bool) → ¬ (b ≡ true) → b ≡ false
not_true true h = absurd (h refl)
not_true false h = refl

-- distinct numbers that a set does not have repeat nothing
pub nothing_repeats : (s : FinSet nat_cmp) (xs : List ℕ) → AreDistinct xs
    → ((y : ℕ) → IsAmong y xs → ¬ (set.contains s y ≡ true)) → first_repeat s xs ≡ None
nothing_repeats s [] d new = refl
nothing_repeats s (x ∷ xs) d new =
    let fresh : set.contains s x ≡ false = not_true (set.contains s x) (new x (inl refl)) in
    ap (λ b. cond b (Some x) (first_repeat (set.insert s x) xs)) fresh
    ∙ nothing_repeats (set.insert s x) xs d.1 (λ y a has.
    ⊎_elim (λ (e : y ≡ x). d.0 (subst (λ z. IsAmong z xs) e a)) (λ (old : set.contains s y ≡ true). new y (inr a) old)
    (was_there s x y has))

-- the empty set has nothing
pub none_in_empty : (y : ℕ) → ¬ (set.contains (set.empty {R = nat_cmp}) y ≡ true)
none_in_empty y h = let m : set.contains (set.empty {R = nat_cmp}) y ≡ false = contains-empty nat_cmp y in cc

-- of what has no fault nothing is told but want of memory
told_of_none : (e : Stopped) → e ≢ OutOfMemory → IsFault e None → ⊥
told_of_none e ne h = ⊎_elim ne (λ none. cc) h

-- where no repeat is told, numbers are distinct, and where one is told, they are not
pub told_once : (xs : List ℕ) → first_repeat set.empty xs ≡ None → IsTrue true ↔ AreDistinct xs
told_once xs none = (λ _. distinct set.empty xs none, λ _. refl)

pub told_twice : (fault : Fault) (xs : List ℕ) → IsFault (Refused fault) (first_redefinition set.empty xs)
    → IsTrue false ↔ AreDistinct xs
told_twice fault xs told = search (rules, nothing_repeats, none_in_empty, told_of_none)

-- what the set of all has was there before or stands in the list
pub found : (s : FinSet nat_cmp) (xs : List ℕ) (y : ℕ) → set.contains (with_all s xs) y ≡ true
    → (set.contains s y ≡ true) ⊎ IsAmong y xs
found s [] y h = inl h
found s (x ∷ xs) y h =
    ⊎_elim (λ (e : set.contains (set.insert s x) y ≡ true). ⊎_elim (λ (i : y ≡ x). inr (inl i))
    (λ (t : set.contains s y ≡ true). inl t) (was_there s x y e))
    (λ (a : IsAmong y xs). inr (inr a)) (found (set.insert s x) xs y h)

pub kept : (s : FinSet nat_cmp) (xs : List ℕ) (y : ℕ) → set.contains s y ≡ true → set.contains (with_all s xs) y ≡ true
kept s [] y h = h
kept s (x ∷ xs) y h = kept (set.insert s x) xs y (has_old s x y h)

-- what stands in the list is in the set of all
pub taken : (s : FinSet nat_cmp) (xs : List ℕ) (y : ℕ) → IsAmong y xs → set.contains (with_all s xs) y ≡ true
taken s [] y a = absurd a
taken s (x ∷ xs) y a =
    ⊎_elim (λ (e : y ≡ x). kept (set.insert s x) xs y
    (subst (λ z. set.contains (set.insert s x) z ≡ true) (sym e) (has_new s x)))
    (taken (set.insert s x) xs y) a

pub known_is : (vars : List ℕ) (lit : ℕ) → is_known (with_all set.empty vars) lit ≡ true → IsKnown vars lit
known_is vars lit h = search (rules, none_in_empty, found)

pub known_told : (vars : List ℕ) (lit : ℕ) → IsKnown vars lit → is_known (with_all set.empty vars) lit ≡ true
known_told vars lit k = search (rules, or_true, taken)

pub all_known : (vars lits : List ℕ) → first_unknown (with_all set.empty vars) lits ≡ None
    → AllByRecursion (IsKnown vars) lits
all_known vars [] h = tt
all_known vars (x ∷ xs) h =
    elim (is_known (with_all set.empty vars) x) as (λ b. is_known (with_all set.empty vars) x ≡ b
    → cond b (first_unknown (with_all set.empty vars) xs) (Some x) ≡ None
    → AllByRecursion (IsKnown vars) (x ∷ xs)) [
      | true ↦ λ e n. (known_is vars x e, all_known vars xs n)
      | false ↦ λ _ n. cc
    ] refl h

pub none_unknown : (vars lits : List ℕ) → AllByRecursion (IsKnown vars) lits
    → first_unknown (with_all set.empty vars) lits ≡ None
none_unknown vars [] h = refl
none_unknown vars (x ∷ xs) h =
    ap (λ b. cond b (first_unknown (with_all set.empty vars) xs) (Some x)) (known_told vars x h.0)
    ∙ none_unknown vars xs h.1

nothing_told : (repeat unknown cycle : Option ℕ)
    → option_or (option_map redefined repeat) (option_or (option_map undefined unknown) (option_map cyclic cycle))
    ≡ None
    → (repeat ≡ None) × (unknown ≡ None) × (cycle ≡ None)
nothing_told None None None h = (refl, refl, refl)
nothing_told None None (Some x) h = cc
nothing_told None (Some x) cycle h = cc
nothing_told (Some x) unknown cycle h = cc

-- where each variable is defined once and no gate depends on a cycle, the gates have a rank
pub ranked_where_none_cyclic : (c : Circuit) → AreDistinct (defined_variables c) → first_cyclic c.gates ≡ None
    → HasRank c.gates
ranked_where_none_cyclic c once none =
    let order = a_least_ready_order c in
    (rank_exactly_where_all_are_ordered c order.0 once order.1).1
    (all_listed_where_none c.gates order.0 order.1.full order.1.in_turn none)

-- a circuit in form without a fault is well formed
pub well_formed : (c : Circuit) → IsInForm c → first_structural_fault c ≡ None → IsWellFormed c
well_formed c form h = search (rules, nothing_told, distinct, all_known, ranked_where_none_cyclic)

-- a well-formed circuit has no fault
pub faultless : (c : Circuit) → IsWellFormed c → first_structural_fault c ≡ None
faultless c w =
    let once : first_repeat set.empty (defined_variables c) ≡ None =
    nothing_repeats set.empty (defined_variables c) w.once (λ y _ h. none_in_empty y h) in
    let known : first_unknown (with_all set.empty (defined_variables c)) (used_literals c) ≡ None =
    none_unknown (defined_variables c) (used_literals c) w.known in
    let order = a_least_ready_order c in
    let acyclic : first_cyclic c.gates ≡ None =
    none_cyclic c.gates order.0 order.1.full order.1.in_turn
    ((rank_exactly_where_all_are_ordered c order.0 w.once order.1).0 w.ranked) in
    rw (once, known, acyclic) refl

pub faultless_is_well_formed : (c : Circuit) → IsInForm c → (first_structural_fault c ≡ None) ↔ IsWellFormed c
faultless_is_well_formed c form = (well_formed c form, faultless c)

-- a well-formed circuit is told nothing but want of memory
pub refuted : (e : Stopped) (c : Circuit) → IsWellFormed c → e ≢ OutOfMemory → IsFault e (first_structural_fault c)
    → ⊥
refuted e c good ne h = told_of_none e ne (subst (IsFault e) (faultless c good) h)

-- Variables in parts: none stands in the list twice where none stands in a part twice.

-- ---- distinct numbers, and those of them in a part

in_list_step : (b : Bool) (x y : ℕ) (ys xs : List ℕ) → (IsAmong x ys → IsAmong x xs) → IsAmong x (cond b (y ∷ ys) ys)
    → IsAmong x (y ∷ xs)
in_list_step true x y ys xs back a = ⊎_elim (λ (e : x ≡ y). inl e) (λ (r : IsAmong x ys). inr (back r)) a
in_list_step false x y ys xs back a = inr (back a)

-- what is in a part is in the list
in_list : (p : ℕ → Bool) (x : ℕ) (xs : List ℕ) → IsAmong x (filter p xs) → IsAmong x xs
in_list p x [] a = a
in_list p x (y ∷ xs) a = in_list_step (p y) x y (filter p xs) xs (in_list p x xs) a

in_part_step : (b : Bool) (x y : ℕ) (ys : List ℕ) → (x ≡ y → b ≡ true) → (x ≡ y) ⊎ IsAmong x ys
    → IsAmong x (cond b (y ∷ ys) ys)
in_part_step true x y ys own a = a
in_part_step false x y ys own a =
    ⊎_elim (λ (e : x ≡ y). let f : false ≡ true = own e in cc) (λ (r : IsAmong x ys). r) a

-- what is in the list is in its part
in_part : (p : ℕ → Bool) (x : ℕ) (xs : List ℕ) → p x ≡ true → IsAmong x xs → IsAmong x (filter p xs)
in_part p x [] is a = a
in_part p x (y ∷ xs) is a =
    in_part_step (p y) x y (filter p xs) (λ (e : x ≡ y). subst (λ z. p z ≡ true) e is)
    (⊎_elim (λ (e : x ≡ y). inl e) (λ (r : IsAmong x xs). inr (in_part p x xs is r)) a)

with_one : (b : Bool) (x : ℕ) (ys : List ℕ) → ¬ IsAmong x ys → AreDistinct ys → AreDistinct (cond b (x ∷ ys) ys)
with_one true x ys new d = (new, d)
with_one false x ys new d = d

without_one : (b : Bool) (x : ℕ) (ys : List ℕ) → AreDistinct (cond b (x ∷ ys) ys) → AreDistinct ys
without_one true x ys d = d.1
without_one false x ys d = d

part_distinct : (p : ℕ → Bool) (xs : List ℕ) → AreDistinct xs → AreDistinct (filter p xs)
part_distinct p [] d = d
part_distinct p (x ∷ xs) d =
    with_one (p x) x (filter p xs) (λ (a : IsAmong x (filter p xs)). d.0 (in_list p x xs a)) (part_distinct p xs d.1)

whole_distinct : (xs : List ℕ) → ((k : ℕ) → k < 256 → AreDistinct (filter (is_in_part k) xs)) → AreDistinct xs
whole_distinct [] h = tt
whole_distinct (x ∷ xs) h =
    let k = x % 256 in
    let own : is_in_part k x ≡ true = eq-eqb k k refl in
    let mine : AreDistinct (x ∷ filter (is_in_part k) xs) =
    subst (λ b. AreDistinct (cond b (x ∷ filter (is_in_part k) xs) (filter (is_in_part k) xs))) own
    (h k (omega arith)) in (
      λ (a : IsAmong x xs). mine.0 (in_part (is_in_part k) x xs own a),
      whole_distinct xs (λ j low. without_one (is_in_part j x) x (filter (is_in_part j) xs) (h j low)),
    )

-- what is told of the repeats in a part
each_itself : (xs : List ℕ) → flat_map (λ (v : ℕ). v ∷ []) xs ≡ xs
each_itself xs = flat_map_single (λ (v : ℕ). v) xs ∙ map-id xs

pub part_once : (seen : FinSet nat_cmp) (xs : List ℕ) → seen ≡ set.empty
    → first_repeat seen (flat_map (λ (v : ℕ). v ∷ []) xs) ≡ None → IsTrue true ↔ AreDistinct xs
part_once seen xs none told =
    told_once xs ((λ i. first_repeat (sym none i) (sym (each_itself xs) i)) ∙ told)

pub part_twice : (seen : FinSet nat_cmp) (fault : Fault) (xs : List ℕ) → seen ≡ set.empty
    → IsFault (Refused fault) (first_redefinition seen (flat_map (λ (v : ℕ). v ∷ []) xs))
    → IsTrue false ↔ AreDistinct xs
part_twice seen fault xs none told =
    told_twice fault xs
    (subst (λ o. IsFault (Refused fault) (option_map redefined o))
    (λ i. first_repeat (none i) (each_itself xs i)) told)

-- ---- parts

-- the numbers of a part, with one number more that is in it or is not
part_more : (k x : ℕ) (all : List ℕ) (b : Bool) → is_in_part k x ≡ b
    → filter (is_in_part k) (all ++ x ∷ []) ≡ filter (is_in_part k) all ++ cond b (x ∷ []) []
part_more k x all b is = filter-append (is_in_part k) all (x ∷ [])
    ∙ ap (λ b. filter (is_in_part k) all ++ cond b (x ∷ []) []) is

one_more : (parts more : List (List ℕ)) (all : List ℕ) (x : ℕ) → AreParts parts all
    → more ≡ slice_set parts (x % 256) (slice_index_or parts (x % 256) [] ++ x ∷ []) → AreParts more (all ++ x ∷ [])
one_more parts more all x are e =
    let at = x % 256 in
    let grown = slice_index_or parts at [] ++ x ∷ [] in
    let here : slice_index_or (slice_set parts at grown) at [] ≡ filter (is_in_part at) (all ++ x ∷ []) =
    get_or-set_same parts at grown [] (omega (arith, are.many)) ∙ ap (λ (xs : List ℕ). xs ++ x ∷ [])
    (are.each at (omega arith)) ∙ sym (part_more at x all true (eq-eqb at at refl)) in
    record {
      many = ap length e ∙ length-set parts at grown ∙ are.many;
      each = λ k low.
          ap (λ (ps : List (List ℕ)). slice_index_or ps k []) e
          ∙ elim (cases_eq k at) as (λ _. slice_index_or (slice_set parts at grown) k []
          ≡ filter (is_in_part k) (all ++ x ∷ [])) [
            | inl same ↦
                subst (λ j. slice_index_or (slice_set parts at grown) j [] ≡ filter (is_in_part j) (all ++ x ∷ []))
                (sym same) here
            | inr other ↦
                get_or-set_other parts at k grown [] other ∙ are.each k low
                ∙ sym (append-nil (filter (is_in_part k) all))
                ∙ sym (part_more k x all false (ne_eqb at k (λ (e : at ≡ k). other (sym e))))
          ];
    }

-- no number is in the list twice exactly where none is in one of the parts twice
distinct_parts : (parts : List (List ℕ)) (all : List ℕ) (once : Bool) → AreParts parts all
    → (IsTrue once ↔ ((k : ℕ) → k < length parts → AreDistinct (slice_index_or parts k [])))
    → IsTrue once ↔ AreDistinct all
distinct_parts parts all once are is = search (rules, whole_distinct, part_distinct)

-- what the sections of a circuit define, put there one section after the other
pub of_circuit : (c : Circuit) (parts : List (List ℕ)) (once : Bool)
    → AreParts parts ((([] ++ defined_inputs c.inputs) ++ defined_latches c.latches) ++ defined_gates c.gates)
    → (IsTrue once ↔ ((k : ℕ) → k < length parts → AreDistinct (slice_index_or parts k [])))
    → IsTrue once ↔ AreDistinct (defined_variables c)
of_circuit c parts once are is =
    distinct_parts parts (defined_variables c) once (subst (AreParts parts) (defined_is c) are) is

-- parts that stand where as many stood
pub whole : (all : List ℕ) (parts behind : List (List ℕ)) (len : ℕ) → length parts ≡ len → AreParts parts all
    → AreParts (take len (parts ++ behind)) all
whole all parts behind len long are =
    subst (λ ps. AreParts ps all)
    (sym (subst (λ n. take n (parts ++ behind) ≡ parts) long (take-append_seam parts behind)))
    are
