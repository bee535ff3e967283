-- A search for a gate that depends on a cycle, depth first.
use Rattle.std.proofs.lemmas.Grind.{common_steps}
use Rattle.std.proofs.Common.{◌≡◌, ◌≢◌, ◌<◌, ◌≤◌, ◌+◌, ◌-◌, ◌*◌, ◌∷◌, ◌++◌, ◌∙◌, ◌&&◌, rules, ℕ, zero, suc, List, []}
use Rattle.std.proofs.Common.{Bool, true, false, cond, eqb, None, Some, length, map, take, replicate, get_or, refl, sym}
use Rattle.std.proofs.Common.{ap, ap₂, subst, inl, inr, ⊎_elim, arith, not, sum, position, option_to_list, unwrap_or}
use Rattle.std.proofs.Common.{ltb-true, le-ltb, lt-ltb, get_or-set_same, get_or-set_other, length-set, length-append}
use Rattle.std.proofs.Common.{get_or-take, length-take-le}
use Rattle.std.specs.List.{list_all, position_or_len}
use Rattle.std.proofs.Math.ListN.{set as put}
use Rattle.std.proofs.Math.Seq.{get_or-append_seam}
use Rattle.std.proofs.lemmas.Bool.{cases_lt}
use Rattle.std.proofs.lemmas.Bool.Decides.{eqb_tells}
use Rattle.std.proofs.lemmas.List.{get_or_past, get_or-map, get_or_append_left, length-map, length-replicate}
use Rattle.std.proofs.lemmas.List.Sums.{sum_by-cons, sum_by-set, count_by-le-length, position_or_len_is}
use Rattle.std.proofs.lemmas.List.Folds.{sum_by-replicate}
use Rattle.std.proofs.lemmas.List.Quantifiers.{position-Some}
use Rattle.aig_circuit.specs.Wellformed.{IsAmong}
use Rattle.aig_topo.specs.declared.cycle.Pair.{Pair}
use Rattle.aig_topo.specs.Cycle.{comes_to_end, how_many_done, IsSearching, IsAtEnd, IsRisen, gate_at, over_pair}
use Rattle.aig_topo.specs.Cycle.{needs_in, pair_at, pair_of, place_of, AreWithin}
use Rattle.aig_circuit.specs.declared.circuit.Gate.{Gate}
use Rattle.aig_topo.specs.Order.{gate_of, gates_under, gate_operands, ends_within, depends_on_cycle}
use Rattle.aig_topo.proofs.Ordering.Trees.{zeros}
use Rattle.aig_topo.proofs.Ordering.Counted.{among_either}
use Rattle.aig_topo.proofs.Ordering.Ranked.{over_one, no_gate, at, needed}
use Rattle.aig_topo.proofs.Ordering.Cyclic.{all_true, each_true}

and_false_left : (a b : Bool) → a ≡ false → (a && b) ≡ false
and_false_left true b h = cc
and_false_left false b h = refl

and_false_right : (a b : Bool) → b ≡ false → (a && b) ≡ false
and_false_right true b h = h
and_false_right false b h = refl

one_false : (p : ℕ → Bool) (xs : List ℕ) (x : ℕ) → IsAmong x xs → p x ≡ false → list_all p xs ≡ false
one_false p [] x a h = absurd a
one_false p (y ∷ ys) x a h =
    ⊎_elim (λ (e : x ≡ y). and_false_left (p y) (list_all p ys) (subst (λ z. p z ≡ false) e h))
    (λ (later : IsAmong x ys). and_false_right (p y) (list_all p ys) (one_false p ys x later h)) a

-- a gate of a pair is one of its places
from_place : (n p h : ℕ) → IsAmong h (option_to_list (gate_at n p)) → (h < n) × (h ≡ p)
from_place n p h = search (rules, ltb-true)

module _ (pairs : List Pair) (states : List ℕ) (gate : ℕ) (there : gate < length pairs) where
  needs_are : needs_in pairs gate ≡ over_pair (length pairs) (pair_at pairs gate)
  needs_are = get_or-map (over_pair (length pairs)) pairs gate (record { left = 0; right = 0 }) [] there

  -- where both places are done, all that the gate needs is
  pub both_done : get_or states (pair_at pairs gate).left 0 ≡ 2 → get_or states (pair_at pairs gate).right 0 ≡ 2
      → (h : ℕ) → IsAmong h (needs_in pairs gate) → (h < length pairs) × (get_or states h 0 ≡ 2)
  both_done left right h a = search (rules, from_place, among_either, needs_are)

-- one that is done counts as one
abbrev counted : ℕ → ℕ
counted s = cond (eqb s 2) 1 0

-- where no number is above 2, the sum is at most twice as many
pub few : (xs : List ℕ) → ((i : ℕ) → get_or xs i 0 ≤ 2) → sum xs ≤ 2 * length xs
few [] small = omega arith
few (x ∷ xs) small =
    let first : x ≤ 2 = small 0 in
    let all : sum (x ∷ xs) ≡ x + sum xs = sum_by-cons (λ y. y) x xs in
    omega (arith, first, all, few xs (λ i. small (suc i)))

-- where each number is 2, it is twice as many
pub all_two : (xs : List ℕ) → ((i : ℕ) → i < length xs → get_or xs i 0 ≡ 2) → sum xs ≡ 2 * length xs
all_two [] two = omega arith
all_two (x ∷ xs) two =
    let first : x ≡ 2 = two 0 (omega arith) in
    let all : sum (x ∷ xs) ≡ x + sum xs = sum_by-cons (λ y. y) x xs in
    omega (arith, first, all, all_two xs (λ i l. two (suc i) (omega (arith, l))))

-- what comes to an end comes to one within more too
pub one_more : (needs : ℕ → List ℕ) (n g : ℕ) → comes_to_end n needs g ≡ true → comes_to_end (suc n) needs g ≡ true
unfolding comes_to_end
one_more needs zero g h = cc
one_more needs (suc n) g h =
    all_true (comes_to_end (suc n) needs) (needs g)
    (λ x a. one_more needs n x (each_true (comes_to_end n needs) (needs g) h x a))

pub many_more : (needs : ℕ → List ℕ) (k n g : ℕ) → comes_to_end n needs g ≡ true → comes_to_end (n + k) needs g ≡ true
many_more needs zero n g h = subst (λ m. comes_to_end m needs g ≡ true) (omega arith) h
many_more needs (suc k) n g h =
    subst (λ m. comes_to_end m needs g ≡ true) (omega arith) (many_more needs k (suc n) g (one_more needs n g h))

module _ (count : ℕ) (needs : ℕ → List ℕ) (states way : List ℕ) (before : IsSearching count needs states way) where
  -- what is met is a gate
  pub met_below : (g : ℕ) → get_or states g 0 ≡ 1 → g < count
  met_below g h = search (rules, get_or_past, cases_lt)

  pub last_met : (g : ℕ) → IsAtEnd way g → get_or states g 0 ≡ 1
  last_met g end = subst (λ y. get_or states y 0 ≡ 1) end.last (before.met (length way - 1) (omega (arith, end.some)))

  -- each gate is two steps at most, and where all are done, each is two: the state of no gate is none of them
  pub few_steps : sum states ≤ 2 * count + 2
  few_steps = omega (arith, few states before.small, before.as_many)

  pub two_steps_each : ((g : ℕ) → g < count → get_or states g 0 ≡ 2) → sum states ≡ 2 * count + 2
  two_steps_each done =
      let all = all_two states (λ i l.
      ⊎_elim (λ (there : i < count). done i there)
      (λ (past : count ≤ i). subst (λ k. get_or states k 0 ≡ 2) (omega (arith, past, l, before.as_many)) before.none)
      (cases_lt i count)) in
      omega (arith, all, before.as_many)

  -- where the last one of the way needs one that is met, nothing on the way comes to an end
  pub trapped : (user next : ℕ) → IsAtEnd way user → IsAmong next (needs user) → get_or states next 0 ≡ 1
      → (n g : ℕ) → get_or states g 0 ≡ 1 → comes_to_end n needs g ≡ false
  unfolding comes_to_end
  trapped user next end uses met zero g h = refl
  trapped user next end uses met (suc n) g h =
      let stands = before.on_way g h in
      let at : get_or way stands.0 0 ≡ g = stands.2 in
      ⊎_elim (λ (more : stands.0 + 1 < length way).
      one_false (comes_to_end n needs) (needs g) (get_or way (stands.0 + 1) 0)
      (subst (λ y. IsAmong (get_or way (stands.0 + 1) 0) (needs y)) at (before.uses stands.0 more))
      (trapped user next end uses met n (get_or way (stands.0 + 1) 0) (before.met (stands.0 + 1) more)))
      (search (rules, one_false, at, trapped user next end uses met n next met))
      (cases_lt (stands.0 + 1) (length way))

  module _ (x : ℕ) (there : x < count) where
    in_states : x < length states
    in_states = omega (arith, there, before.as_many)

    -- a gate that was not seen is met
    module _ (unseen : get_or states x 0 ≡ 0)
        (needed : (user : ℕ) → IsAtEnd way user → IsAmong x (needs user)) where
      abbrev now : List ℕ
      now = put states x 1

      abbrev longer : List ℕ
      longer = way ++ x ∷ []

      at_x : get_or now x 0 ≡ 1
      at_x = get_or-set_same states x 1 0 in_states

      elsewhere : (g : ℕ) → g ≢ x → get_or now g 0 ≡ get_or states g 0
      elsewhere g differs = get_or-set_other states x g 1 0 differs

      long : length longer ≡ length way + 1
      long = length-append way (x ∷ [])

      old_at : (i : ℕ) → i < length way → get_or longer i 0 ≡ get_or way i 0
      old_at i l = get_or_append_left way (x ∷ []) 0 i l

      new_at : get_or longer (length way) 0 ≡ x
      new_at = get_or-append_seam way x [] 0

      -- one on the way is another
      other : (i : ℕ) → i < length way → get_or way i 0 ≢ x
      other i l e = search rules

      by_place : (P : ℕ → Type 0) → ((i : ℕ) → i < length way → P i) → P (length way)
          → (i : ℕ) → i < length longer → P i
      by_place P old new i l = search (rules, long, cases_lt)

      done_as_before : how_many_done now ≡ how_many_done states
      done_as_before = search (rules, sum_by-set, in_states)

      pub entered : IsSearching count needs now longer
      entered = record {
        as_many = length-set states x 1 ∙ before.as_many;
        none = elsewhere count (λ e. absurd (omega (arith, e, there))) ∙ before.none;
        small = search (rules, at_x, elsewhere, eqb_tells);
        met = by_place (λ i. get_or now (get_or longer i 0) 0 ≡ 1)
            (λ i l. ap (λ g. get_or now g 0) (old_at i l) ∙ elsewhere (get_or way i 0) (other i l) ∙ before.met i l)
            (ap (λ g. get_or now g 0) new_at ∙ at_x);
        apart = λ i j less l. by_place (λ k. i < k → get_or longer i 0 ≢ get_or longer k 0)
            (λ k b less e. before.apart i k less b (sym (old_at i (omega (arith, less, b))) ∙ e ∙ old_at k b))
            (λ less e. other i less (sym (old_at i less) ∙ e ∙ new_at)) j l less;
        uses = grind (arith, common_steps, by_place, old_at, new_at, needed) steps 1000000;
        on_way = search (rules, long, new_at, elsewhere, old_at, eqb_tells);
        ended = search (rules, at_x, done_as_before, elsewhere, eqb_tells);
      }

      pub one_step_in : sum now ≡ sum states + 1
      one_step_in = search (rules, sum_by-set, in_states)

      pub risen_in : IsRisen states now
      risen_in g = search (rules, at_x, elsewhere, eqb_tells)

    -- the last one of the way is done
    module _ (end : IsAtEnd way x)
        (served : (h : ℕ) → IsAmong h (needs x) → (h < count) × (get_or states h 0 ≡ 2)) where
      abbrev after : List ℕ
      after = put states x 2

      abbrev shorter : List ℕ
      shorter = take (length way - 1) way

      was_met : get_or states x 0 ≡ 1
      was_met = last_met x end

      done_x : get_or after x 0 ≡ 2
      done_x = get_or-set_same states x 2 0 in_states

      apart_from : (g : ℕ) → g ≢ x → get_or after g 0 ≡ get_or states g 0
      apart_from g differs = get_or-set_other states x g 2 0 differs

      as_long : length shorter ≡ length way - 1
      as_long = length-take-le (length way - 1) way (omega arith)

      kept_at : (i : ℕ) → i < length way - 1 → get_or shorter i 0 ≡ get_or way i 0
      kept_at i l = get_or-take (length way - 1) way i 0 l

      differs_at : (i : ℕ) → i < length way - 1 → get_or way i 0 ≢ x
      differs_at i l e = before.apart i (length way - 1) l (omega (arith, end.some)) (e ∙ sym end.last)

      one_more_done : how_many_done after ≡ suc (how_many_done states)
      one_more_done = search (rules, sum_by-set, in_states, was_met)

      ends_here : comes_to_end (suc (how_many_done states)) needs x ≡ true
      unfolding comes_to_end
      ends_here = search (rules, all_true)

      pub left : IsSearching count needs after shorter
      left = record {
        as_many = length-set states x 2 ∙ before.as_many;
        none = apart_from count (λ e. absurd (omega (arith, e, there))) ∙ before.none;
        small = search (rules, done_x, apart_from, eqb_tells);
        met = search (rules, as_long, kept_at, apart_from, differs_at);
        apart = search (rules, as_long, kept_at);
        uses = search (rules, as_long, kept_at);
        on_way = λ g h.
            let differs : g ≢ x = search (rules, done_x) in search (rules, apart_from, as_long, kept_at);
        ended = search (rules, one_more_done, ends_here, one_more, apart_from, eqb_tells);
      }

      pub one_step_out : sum after ≡ sum states + 1
      one_step_out = search (rules, sum_by-set, in_states, was_met)

      pub risen_out : IsRisen states after
      risen_out g = search (rules, done_x, was_met, apart_from, eqb_tells)

-- nothing is known yet
module _ (count : ℕ) (needs : ℕ → List ℕ) where
  abbrev at_first : List ℕ
  at_first = put (replicate (count + 1) 0) count 2

  at_count : get_or at_first count 0 ≡ 2
  at_count = get_or-set_same (replicate (count + 1) 0) count 2 0 (omega (arith, length-replicate {A = ℕ} (count + 1) 0))

  unknown : (g : ℕ) → g ≢ count → get_or at_first g 0 ≡ 0
  unknown g differs = get_or-set_other (replicate (count + 1) 0) count g 2 0 differs ∙ zeros (count + 1) g

  pub no_steps : sum at_first ≡ 2
  no_steps =
      let length_is = length-replicate {A = ℕ} (count + 1) 0 in
      omega (
        arith,
        sum_by-set (λ y. y) (replicate (count + 1) 0) count 2 0 (omega (arith, length_is)),
        sum_by-replicate (λ y. y) (count + 1) 0,
        zeros (count + 1) count,
      )

  pub begins : IsSearching count needs at_first []
  begins = search (rules, length-set, length-replicate, at_count, unknown, eqb_tells)

-- the places of operands, and the gates that are needed
module _ (gates : List Gate) (pairs : List Pair) (pairs_are : pairs ≡ map (pair_of gates) gates) where
  pub long_pairs : length pairs ≡ length gates
  long_pairs = ap length pairs_are ∙ length-map gates (pair_of gates)

  below : (v i : ℕ) → gate_of gates v ≡ Some i → i < length gates
  below v i e = (position-Some (λ (g : Gate). eqb g.var v) gates i no_gate e).0

  place_within : (literal : ℕ) → place_of gates literal ≤ length gates
  place_within literal = search (rules, below)

  pub all_within : AreWithin pairs
  all_within g =
      ⊎_elim (λ (l : g < length gates).
      let is : pair_at pairs g ≡ pair_of gates (at gates g) = ap (λ ps. pair_at ps g) pairs_are
      ∙ get_or-map (pair_of gates) gates g no_gate (record { left = 0; right = 0 }) l in
      rw (is, long_pairs) (place_within (at gates g).left, place_within (at gates g).right))
      (search (rules, left, get_or_past, long_pairs))
      (cases_lt g (length gates))

  gate_again : (v : ℕ) → gate_at (length gates) (unwrap_or (gate_of gates v) (length gates)) ≡ gate_of gates v
  gate_again v =
      elim (gate_of gates v) as (λ o. gate_of gates v ≡ o → gate_at (length gates) (unwrap_or o (length gates)) ≡ o) [
        | None ↦ λ e. ap (λ b. cond b (Some (length gates)) None) (le-ltb (length gates) (length gates) (omega arith))
        | Some i ↦ λ e. ap (λ b. cond b (Some i) None) (lt-ltb i (length gates) (below v i e))
      ] refl

  over_again : (g : Gate) → over_pair (length gates) (pair_of gates g) ≡ gates_under gates g
  over_again g = search (rules, gate_again)

  pub same_needs : (g : ℕ) → g < length gates → needs_in pairs g ≡ gate_operands gates g
  same_needs g there =
      let in_pairs : g < length pairs = omega (arith, there, long_pairs) in
      let is : pair_at pairs g ≡ pair_of gates (at gates g) = ap (λ ps. pair_at ps g) pairs_are
      ∙ get_or-map (pair_of gates) gates g no_gate (record { left = 0; right = 0 }) there in
      needs_are pairs [] g in_pairs ∙ ap₂ over_pair long_pairs is ∙ over_again (at gates g) ∙ sym (needed gates g there)

  all_alike : (p q : ℕ → Bool) (xs : List ℕ) → ((x : ℕ) → IsAmong x xs → p x ≡ q x) → list_all p xs ≡ list_all q xs
  all_alike p q [] same = refl
  all_alike p q (x ∷ xs) same =
      ap₂ (λ a b. a && b) (same x (inl refl)) (all_alike p q xs (λ y a. same y (inr a)))

  same_end : (n g : ℕ) → g < length gates → comes_to_end n (needs_in pairs) g ≡ ends_within n gates g
  unfolding comes_to_end ends_within
  same_end zero g there = refl
  same_end (suc n) g there =
      ap (list_all (comes_to_end n (needs_in pairs))) (same_needs g there)
      ∙ all_alike (comes_to_end n (needs_in pairs)) (ends_within n gates) (gate_operands gates g)
      (λ h a. same_end n h (over_one gates g h there a).0)

  depends_where : (g : ℕ) → g < length gates → depends_on_cycle gates (at gates g)
      ≡ not (comes_to_end (suc (length gates)) (needs_in pairs) g)
  unfolding ends_within
  depends_where g there = search (rules, needed, same_end)

  pub depends : (g : ℕ) → g < length gates → ((n : ℕ) → comes_to_end n (needs_in pairs) g ≡ false)
      → depends_on_cycle gates (at gates g) ≡ true
  depends g there never = depends_where g there ∙ ap not (never (suc (length gates)))

  -- what is done depends on no cycle: no more gates are done than there are
  pub independent : (states way : List ℕ) → IsSearching (length pairs) (needs_in pairs) states way → (g : ℕ)
      → g < length gates → get_or states g 0 ≡ 2 → depends_on_cycle gates (at gates g) ≡ false
  independent states way searching g there done =
      let few : how_many_done states ≤ suc (length gates) =
      omega (arith, count_by-le-length (λ s. eqb s 2) states, searching.as_many, long_pairs) in
      let ends : comes_to_end (how_many_done states) (needs_in pairs) g ≡ true =
      searching.ended g (omega (arith, there, long_pairs)) done in
      depends_where g there ∙ ap not (subst (λ m. comes_to_end m (needs_in pairs) g ≡ true) (omega (arith, few))
      (many_more (needs_in pairs) (suc (length gates) - how_many_done states) (how_many_done states) g ends))

  module _ (states way : List ℕ) (searching : IsSearching (length pairs) (needs_in pairs) states way) where
    -- where all before a gate are done, and it depends on a cycle, it is the first one
    pub first_is : (g : ℕ) → g < length gates → ((k : ℕ) → k < g → get_or states k 0 ≡ 2)
        → ((n : ℕ) → comes_to_end n (needs_in pairs) g ≡ false) → Some g ≡ position (depends_on_cycle gates) gates
    first_is g there before never =
        let place : position_or_len (depends_on_cycle gates) gates ≡ g =
        position_or_len_is (depends_on_cycle gates) gates g no_gate (omega (arith, there))
        (λ k l. independent states way searching k (omega (arith, l, there)) (before k l))
        (λ _. depends g there never) in search (rules, lt-ltb)

    pub none_is : ((k : ℕ) → k < length gates → get_or states k 0 ≡ 2)
        → None ≡ position (depends_on_cycle gates) gates
    none_is all =
        let place : position_or_len (depends_on_cycle gates) gates ≡ length gates =
        position_or_len_is (depends_on_cycle gates) gates (length gates) no_gate (omega arith)
        (λ k l. independent states way searching k l (all k l))
        (λ l. absurd (omega (arith, l))) in search (rules, le-ltb)
