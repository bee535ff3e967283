-- The numbers of variables that are noted one after the other: one that was given stays.
use Rattle.std.proofs.Common.{◌≡◌, ◌≢◌, ◌<◌, ◌≤◌, ◌+◌, ◌∷◌, ◌++◌, ◌∙◌, ◌*◌, ◌%◌, ◌⊎◌, rules, ℕ, List, [], cond, eqb}
use Rattle.std.proofs.Common.{length, get_or, take, map, None, ap, length-append, arith, below_more, drop, refl, sym}
use Rattle.std.proofs.Common.{subst, ⊎_elim, append_assoc, append-nil, suc, inl, inr, set, nat_cmp, ne_eqb, map-id}
use Rattle.std.proofs.Common.{take-append-drop, take_all, length-take-le, drop-cons}
use Rattle.std.specs.FinMap.{get, get-empty, empty}
use Rattle.std.specs.List.{AllByRecursion}
use Rattle.std.proofs.lemmas.Grind.{common_steps}
use Rattle.std.proofs.lemmas.List.{get_or_default, get_or-map, map-append, drop_all, length-map}
use Rattle.std.proofs.lemmas.List.Folds.{position_or_len_push}
use Rattle.std.proofs.lemmas.List.Sums.{prefix_len-le-length}
use Rattle.std.proofs.Math.ListN.{get_or-append}
use Rattle.std.proofs.lemmas.List.Edits.{map_over_more}
use Rattle.aig_circuit.specs.Wellformed.{IsAmong, IsKnown, operands, AreDistinct}
use Rattle.aig_circuit.specs.declared.circuit.Gate.{Gate}
use Rattle.aig_circuit.specs.declared.circuit.TheConstants.{LARGEST}
use Rattle.aig_circuit.specs.Literal.{variable_of}
use Rattle.aig_circuit.proofs.Alike.{gates_alike}
use Rattle.aig_circuit.proofs.Checking.{each}
use Rattle.aig_tables.specs.VarMap.{with_new}
use Rattle.aig_tables.proofs.Tables.Maps.{get-with_new}
use Rattle.aig_topo.proofs.Ordering.LeastReady.{among_or_not}
use Rattle.aig_topo.proofs.Ordering.Trees.{eqb_comm}
use Rattle.aig_topo.proofs.Ordering.Ranked.{at, no_gate, variables}
use Rattle.aig_topo.proofs.Ordering.Counted.{among_first}
use Rattle.aig_topo.proofs.Ordering.Cyclic.{among_last}
use Rattle.aig_meaning.proofs.Related.{distinct_apart, distinct_front}
use Rattle.aig_image.specs.declared.numbers.Numbers.{Numbers}
use Rattle.aig_image.specs.Parts.InTurn.{HasNumber, AreMadeOf, next_numbered, numbered_gate}
use Rattle.aig_image.specs.Parts.Numbers.{number_of, number_in, HaveNumbers}
use Rattle.aig_image.specs.Renumbering.{renumbered}
use Rattle.aig_image.specs.Relabelled.{FitIntoLiterals}
use Rattle.aig_image.specs.Reordered.{operands_sorted}
use Rattle.aig_image.proofs.Numbering.Places.{no_place, number_at, number_of as own_number, number_within, somewhere}
use Rattle.aig_image.proofs.Numbering.Places.{here}

-- the place in a list that grows
number_push : (xs : List ℕ) (x v : ℕ)
    → number_in (xs ++ x ∷ []) v ≡ cond (eqb (number_in xs v) 0) (cond (eqb x v) (length xs + 1) 0) (number_in xs v)
number_push xs x v = grind (arith, common_steps, position_or_len_push, prefix_len-le-length)

-- a number does not come from after what is not there
pub not_behind : (xs ys : List ℕ) (v : ℕ) → ¬ IsAmong v ys → number_in (xs ++ ys) v ≡ number_in xs v
not_behind xs [] v out = ap (λ l. number_in l v) (append-nil xs)
not_behind xs (y ∷ ys) v out =
    let apart = ne_eqb y v (λ e. out (inl (sym e))) in
    ap (λ l. number_in l v) (sym (append_assoc xs (y ∷ []) ys))
    ∙ not_behind (xs ++ y ∷ []) ys v (λ a. out (inr a))
    ∙ number_push xs y v
    ∙ rw apart (grind (arith, common_steps))

-- where none was noted
pub none_noted : (n : Numbers) → n.noted ≡ 0 → n.numbers ≡ empty → HaveNumbers n []
none_noted n none nothing =
    let has : (v : ℕ) → get n.numbers v ≡ None = λ v. ap (λ m. get m v) nothing ∙ get-empty nat_cmp v in
    search rules

-- one variable more
pub one_more : (old new : Numbers) (var : ℕ) → new.noted ≡ old.noted + 1
    → new.numbers ≡ with_new old.numbers var (old.noted + 1)
    → (variables : List ℕ) → HaveNumbers old variables → HaveNumbers new (variables ++ var ∷ [])
one_more old new var counted told variables numbered =
    search (rules, get-with_new, length-append, number_push, eqb_comm, common_steps)

-- the variables of the first items, and of one more
pub variables_more : {X : Type 0} (f : X → ℕ) (variables : List ℕ) (items : List X) (i : ℕ) (d : X) → i < length items
    → (variables ++ map f (take i items)) ++ f (get_or items i d) ∷ [] ≡ variables ++ map f (take (i + 1) items)
variables_more f variables items i d below = grind (arith, common_steps)

-- a variable of an item that stands in a list is there, and where each stands there once, not before the item
module _ {X : Type 0} (f : X → ℕ) (items : List X) (i : ℕ) (x : X) (there : i < length items) where
  abbrev item : ℕ
  item = f (get_or items i x)

  pub among_items : IsAmong item (map f items)
  among_items =
      subst (λ v. IsAmong v (map f items)) (get_or-map f items i x 0 there)
      (here (map f items) i (omega (arith, there, length-map items f)))

  pub not_before : AreDistinct (map f items) → ¬ IsAmong item (map f (take i items))
  not_before once =
      let cut : map f items ≡ map f (take i items) ++ item ∷ map f (drop (suc i) items) =
      ap (map f) (sym (take-append-drop i items) ∙ ap (λ xs. take i items ++ xs) (drop-cons items i x there))
      ∙ map-append f (take i items) (get_or items i x ∷ drop (suc i) items) in
      λ a. distinct_apart (map f (take i items)) (item ∷ map f (drop (suc i) items)) (rw cut at once) item a (inl refl)

  -- what has no number, and is none of the items that have one, has none where one more has
  pub none_more : (old new : Numbers) (var n : ℕ) → var ≡ item → new.numbers ≡ with_new old.numbers var n
      → (v : ℕ) → (¬ IsAmong v (map f (take i items)) → get old.numbers v ≡ None)
      → ¬ IsAmong v (map f (take (i + 1) items)) → get new.numbers v ≡ None
  none_more old new var n is told v none out =
      let more = variables_more f [] items i x there in
      let before : ¬ IsAmong v (map f (take i items)) =
      λ a. out (subst (IsAmong v) more (among_first v (map f (take i items)) (item ∷ []) a)) in
      let apart : v ≢ var =
      λ e. out (subst (IsAmong v) more (among_last (map f (take i items)) (item ∷ []) v (inl (e ∙ is)))) in
      let has = get-with_new old.numbers var n v in
      let differ = ne_eqb v var apart in
      let had = none before in
      ap (λ m. get m v) told ∙ has ∙ rw (had, differ) refl

pub in_list : (variables : List ℕ) (v : ℕ) → number_in variables v ≤ length variables
in_list variables v = grind (arith, common_steps)

-- what is not in a list has no number, so what has one is there
pub no_number : (v : ℕ) (xs : List ℕ) → ¬ IsAmong v xs → number_in xs v ≡ 0
no_number v xs out = let none = no_place v xs out in grind (arith, common_steps, none)

has_number : (xs : List ℕ) (v : ℕ) → 0 < number_in xs v → IsAmong v xs
has_number xs v some = search (rules, no_number, among_or_not)

-- a variable that has a place has its number
pub in_place : (v : ℕ) (xs : List ℕ) → v ≢ 0 → renumbered xs v ≤ length xs → number_in xs v ≡ renumbered xs v
in_place v xs some fits = let b = ne_eqb v 0 some in grind (arith, common_steps, b, fits)

-- what is noted of two sections
pub two_sections : {L : Type 0} (of_latch : L → ℕ) (n : Numbers) (inputs inputs_too : List ℕ)
    (latches latches_too : List L)
    → inputs ≡ inputs_too → latches ≡ latches_too → HaveNumbers n ([] ++ map (λ v. v) inputs ++ map of_latch latches)
    → HaveNumbers n (inputs_too ++ map of_latch latches_too)
two_sections of_latch n inputs inputs_too latches latches_too same same_latches numbered = search (rules, map-id)

-- a number is not above how many were noted
pub few : {L G : Type 0} (of_latch : L → ℕ) (of_gate : G → ℕ) (n : Numbers) (inputs : List ℕ) (latches : List L)
    (gates : List G)
    → HaveNumbers n (inputs ++ map of_latch latches ++ map of_gate gates)
    → (v : ℕ) → number_of n v ≤ length inputs + length latches + length gates
few of_latch of_gate n inputs latches gates numbered v = grind (arith, common_steps)

-- what has a number is noted
was_noted : (n : Numbers) (variables : List ℕ) → HaveNumbers n variables → (v : ℕ) → 0 < number_of n v
    → IsAmong v variables
was_noted n variables numbered v some = has_number variables v (rw (← numbered.numbers v) some)

known : (n : Numbers) (vars : List ℕ) → HaveNumbers n vars → (l : ℕ) → HasNumber n l → IsKnown vars l
known n vars numbered l has = search (rules, was_noted)

module _ (before : List ℕ) (gates : List Gate) where
  -- the operands of a gate are known by the gates before it
  abbrev pub IsOverKnown : ℕ → Type 0
  IsOverKnown k = AllByRecursion (IsKnown (before ++ variables (take k gates))) (operands (at gates k))

  -- of the next gate too
  pub next_over_known : (n : Numbers) (i : ℕ) (g : Gate) → HaveNumbers n (before ++ variables (take i gates))
      → i < length gates
      → g ≡ get_or gates i g → HasNumber n g.left → HasNumber n g.right
      → ((k : ℕ) → k < i → IsOverKnown k) → (k : ℕ) → k < i + 1 → IsOverKnown k
  next_over_known n i g numbered there is left right sofar =
      search (rules, variables, known, below_more, get_or_default, no_gate)

-- A number that was given stays, so a gate that is made over those that there are is the gate of the image.
module _ (n : Numbers) (xs ys : List ℕ) (numbered : HaveNumbers n xs) (once : AreDistinct (xs ++ ys))
    (some : AllByRecursion (λ v. 1 ≤ v) (xs ++ ys)) where
  -- what is noted later does not change a number
  later_keeps : (v : ℕ) → IsAmong v xs → renumbered xs v ≡ renumbered (xs ++ ys) v
  later_keeps v a =
      let there = somewhere v xs a in
      let below : there.0 < length xs = there.1 in
      let fits : there.0 < length (xs ++ ys) = omega (arith, below, length-append xs ys) in
      let same : get_or (xs ++ ys) there.0 0 ≡ v = get_or-append xs ys 0 there.0 below ∙ there.2 in
      let low : 1 ≤ v = each (λ v. 1 ≤ v) (xs ++ ys) some v (among_first v xs ys a) in
      let in_front =
      number_at xs (distinct_front xs ys once) there.0 below (subst (λ w. 1 ≤ w) (sym there.2) low) in
      let in_all = number_at (xs ++ ys) once there.0 fits (subst (λ w. 1 ≤ w) (sym same) low) in
      ap (renumbered xs) (sym there.2) ∙ in_front ∙ sym in_all ∙ ap (renumbered (xs ++ ys)) same

  keeps_number : (v : ℕ) → (v ≡ 0) ⊎ (0 < number_of n v) → number_of n v ≡ renumbered (xs ++ ys) v
  keeps_number v has =
      ⊎_elim
      (λ (z : v ≡ 0). subst (λ w. number_of n w ≡ renumbered (xs ++ ys) w) (sym z)
      (numbered.numbers 0
      ∙ no_number 0 xs (λ a. let low : 1 ≤ 0 = each (λ v. 1 ≤ v) (xs ++ ys) some 0 (among_first 0 xs ys a) in
      omega (arith, low))))
      (λ (h : 0 < number_of n v).
      let a = was_noted n xs numbered v h in
      let low : 1 ≤ v = each (λ v. 1 ≤ v) (xs ++ ys) some v (among_first v xs ys a) in
      let fits : renumbered xs v ≤ length xs =
      number_within xs (distinct_front xs ys once) xs [] v (sym (append-nil xs)) (inr a) in
      numbered.numbers v ∙ in_place v xs (λ e. absurd (omega (arith, low, e))) fits ∙ later_keeps v a) has

-- a gate over what has numbers, which gets the next one
own_gate : (n : Numbers) (xs ys : List ℕ) (g : Gate) → HaveNumbers n xs → AreDistinct (xs ++ g.var ∷ ys)
    → AllByRecursion (λ v. 1 ≤ v) (xs ++ g.var ∷ ys) → HasNumber n g.left → HasNumber n g.right
    → next_numbered n g ≡ numbered_gate (renumbered (xs ++ g.var ∷ ys)) g
own_gate n xs ys g numbered once some left right =
    let vs : List ℕ = xs ++ g.var ∷ ys in
    let low : 1 ≤ g.var = each (λ v. 1 ≤ v) vs some g.var (among_last xs (g.var ∷ ys) g.var (inl refl)) in
    let own : renumbered vs g.var ≡ 1 + length xs = own_number vs once xs ys g.var low refl in
    let keeps = keeps_number n xs (g.var ∷ ys) numbered once some in
    ap operands_sorted
    (gates_alike (omega (arith, own, numbered.count))
    (ap (λ v. 2 * v + g.left % 2) (keeps (variable_of g.left) left))
    (ap (λ v. 2 * v + g.right % 2) (keeps (variable_of g.right) right)))

-- the variables of gates around one of them
around : (before : List ℕ) (gs : List Gate) (i : ℕ) (g : Gate) → i < length gs → g ≡ get_or gs i g
    → before ++ variables gs ≡ (before ++ variables (take i gs)) ++ g.var ∷ variables (drop (suc i) gs)
around before gs i g there is =
    ap (λ xs. before ++ variables xs)
    (sym (take-append-drop i gs) ∙ ap (λ xs. take i gs ++ xs) (drop-cons gs i g there))
    ∙ search (rules, map-append, append_assoc)

next_made : (n : Numbers) (before : List ℕ) (gs : List Gate) (i : ℕ) (g : Gate)
    → HaveNumbers n (before ++ variables (take i gs)) → AreDistinct (before ++ variables gs)
    → AllByRecursion (λ v. 1 ≤ v) (before ++ variables gs) → i < length gs → g ≡ get_or gs i g
    → HasNumber n g.left → HasNumber n g.right
    → next_numbered n g ≡ numbered_gate (renumbered (before ++ variables gs)) g
next_made n before gs i g numbered once some there is left right =
    let cut = around before gs i g there is in
    rw cut (own_gate n (before ++ variables (take i gs)) (variables (drop (suc i) gs)) g numbered (rw cut at once)
    (rw cut at some) left right)

-- the first gates were made, and their variables have numbers; the others stand as they stood
pub record AreMadeSoFar (before : List ℕ) (gs news : List Gate) (n : Numbers) (i : ℕ) : Type 0 where
  pub numbers : HaveNumbers n (before ++ variables (take i gs))
  pub known : (k : ℕ) → k < i → IsOverKnown before gs k
  pub made : news ≡ map (numbered_gate (renumbered (before ++ variables gs))) (take i gs) ++ drop i gs

pub none_made : (before : List ℕ) (gs : List Gate) (n : Numbers) → HaveNumbers n before → AreMadeSoFar before gs gs n 0
none_made before gs n numbered = record {
  numbers = rw append-nil numbered;
  known = λ k below. absurd (omega (arith, below));
  made = refl;
}

pub stands_ahead : {X : Type 0} (xs ys : List X) (f : X → X) (i : ℕ) (x : X) → i < length xs
    → ys ≡ map f (take i xs) ++ drop i xs → x ≡ get_or ys i x → x ≡ get_or xs i x
stands_ahead xs ys f i x there are is = grind (arith, common_steps)

module _ (before : List ℕ) (gs made : List Gate) (n : Numbers) (i : ℕ) (sofar : AreMadeSoFar before gs made n i)
    (there : i < length gs) where
  -- there is room for one number more
  pub room_left : length before + length gs ≤ LARGEST → (n.noted < LARGEST) × FitIntoLiterals (number_of n)
  room_left few =
      let long : length (before ++ variables (take i gs)) ≡ length before + i =
      simp (length-append, length-map) (omega (arith, length-take-le i gs (omega (arith, there)))) in (
        omega (arith, few, long, sofar.numbers.count),
        λ v. omega (
          arith,
          few,
          long,
          sofar.numbers.numbers v,
          in_list (before ++ variables (take i gs)) v,
        ),
      )

  -- and the gate's variable has none yet
  pub none_yet : (g : Gate) → AreDistinct (before ++ variables gs) → g ≡ get_or made i g → get n.numbers g.var ≡ None
  none_yet g once read =
      let f : Gate → Gate = numbered_gate (renumbered (before ++ variables gs)) in
      let stands : g ≡ get_or gs i g = stands_ahead gs made f i g there sofar.made read in
      let xs : List ℕ = before ++ variables (take i gs) in
      let cut = around before gs i g there stands in
      sofar.numbers.others g.var (no_number g.var xs
      (λ a. distinct_apart xs (g.var ∷ variables (drop (suc i) gs)) (rw cut at once) g.var a (inl refl)))

  pub one_made : (m : Numbers) (g h : Gate) → AreDistinct (before ++ variables gs)
      → AllByRecursion (λ v. 1 ≤ v) (before ++ variables gs) → g ≡ get_or made i g → HasNumber n g.left
      → HasNumber n g.right → h ≡ next_numbered n g → m.noted ≡ n.noted + 1
      → m.numbers ≡ with_new n.numbers g.var (n.noted + 1) → AreMadeSoFar before gs (set made i h) m (i + 1)
  one_made m g h once some read left right is count told =
      let f : Gate → Gate = numbered_gate (renumbered (before ++ variables gs)) in
      let stands : g ≡ get_or gs i g = stands_ahead gs made f i g there sofar.made read in
      let next : h ≡ f g = is ∙ next_made n before gs i g sofar.numbers once some there stands left right in
      record {
        numbers =
            subst (HaveNumbers m) (variables_more (λ (g : Gate). g.var) before gs i g there)
            (subst (λ (x : Gate). HaveNumbers m ((before ++ variables (take i gs)) ++ x.var ∷ [])) stands
            (one_more n m g.var count told (before ++ variables (take i gs)) sofar.numbers));
        known = next_over_known before gs n i g sofar.numbers there stands left right sofar.known;
        made =
            subst (λ (x : Gate). set made i x ≡ map f (take (i + 1) gs) ++ drop (i + 1) gs) (sym next)
            (map_over_more f gs made i g there sofar.made read);
      }

-- all of them
pub all_made : (before : List ℕ) (gs made : List Gate) (n : Numbers) (i : ℕ) → AreMadeSoFar before gs made n i
    → length gs ≤ i → AreMadeOf before gs made n
all_made before gs made n i sofar end = record {
  numbers = subst (λ xs. HaveNumbers n (before ++ variables xs)) (take_all i gs end) sofar.numbers;
  in_order = λ k there. sofar.known k (omega (arith, there, end));
  made = sofar.made ∙ rw (take_all i gs end, drop_all i gs end, append-nil) refl;
}
