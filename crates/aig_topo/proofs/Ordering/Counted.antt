-- An order that takes a gate, or counts one down, with its least gate apart from the tree of the others.
use Rattle.std.proofs.Common.{◌≡◌, ◌<◌, ◌≤◌, ◌+◌, ◌-◌, ◌*◌, ◌/◌, ◌%◌, ◌^◌, ◌∷◌, ◌++◌, ◌∙◌, ◌⊎◌, ◌≢◌, ◌||◌, ◌&&◌, rules}
use Rattle.std.proofs.Common.{ℕ, List, [], length, take, get_or, sym, refl, ap, inl, inr, ⊎_elim, arith, eqb, cond}
use Rattle.std.proofs.Common.{true, false, Bool, Option, None, Some, min, max, subst, sum, replicate, drop, IfNone}
use Rattle.std.proofs.Common.{IfSome, length-take-le, length-set, not}
use Rattle.std.specs.List.{AllByRecursion}
use Rattle.std.specs.Int.{bit_at}
use Rattle.std.specs.Int.Bits.{bit_or}
use Rattle.std.proofs.lemmas.Grind.{common_steps}
use Rattle.std.proofs.Math.ListN.{set as put}
use Rattle.std.proofs.lemmas.Bool.Decides.{eqb_tells, nat_tests}
use Rattle.std.proofs.lemmas.List.{take_more_set, length-replicate, get_or_default}
use Rattle.std.proofs.lemmas.List.Folds.{list_any-append}
use Rattle.std.proofs.lemmas.List.Sums.{sum_by-set, sum_by-cons}
use Rattle.std.proofs.lemmas.Nat.Bits.{bit_at-zero}
use Rattle.std.proofs.Math.Seq.{take-append_seam}
use Rattle.std.proofs.lemmas.Bool.{cases_lt, false_from_ne_true}
use Rattle.aig_circuit.specs.declared.circuit.TheConstants.{LARGEST}
use Rattle.aig_circuit.specs.Wellformed.{IsAmong, AreDistinct}
use Rattle.aig_circuit.proofs.Checking.{at_most_below, joined}
use Rattle.aig_tables.specs.Parts.Marks.{is_marked}
use Rattle.aig_topo.specs.Progress.{has_gate, IsCounted}
use Rattle.aig_topo.specs.Ready.{IsTree, IsReady, is_in_tree, is_least}
use Rattle.aig_topo.proofs.Ordering.Trees.{zeros, bit_set, marked_put, within_words}

-- a number in two lists joined is in one of them
pub among_either : (x : ℕ) (xs ys : List ℕ) → IsAmong x (xs ++ ys) → IsAmong x xs ⊎ IsAmong x ys
among_either x [] ys a = inr a
among_either x (z ∷ xs) ys a =
    ⊎_elim (λ e. inl (inl e))
    (λ (b : IsAmong x (xs ++ ys)). ⊎_elim (λ i. inl (inr i)) (λ i. inr i) (among_either x xs ys b)) a

pub among_first : (x : ℕ) (xs ys : List ℕ) → IsAmong x xs → IsAmong x (xs ++ ys)
among_first x [] ys a = absurd a
among_first x (z ∷ xs) ys a =
    ⊎_elim (λ (e : x ≡ z). inl e) (λ (b : IsAmong x xs). inr (among_first x xs ys b)) a

-- who is in a list with one more is in it, or is the one
pub in_longer : (list : List ℕ) (g h : ℕ) → IsAmong h (list ++ g ∷ []) → IsAmong h list ⊎ (h ≡ g)
in_longer list g h a =
    ⊎_elim (λ (b : IsAmong h list). inl b)
    (λ (b : IsAmong h (g ∷ [])). ⊎_elim (λ (e : h ≡ g). inr e) (λ (n : ⊥). absurd n) b)
    (among_either h list (g ∷ []) a)

-- distinct numbers and a new one at the end
pub distinct_more : (xs : List ℕ) (g : ℕ) → AreDistinct xs → ¬ IsAmong g xs → AreDistinct (xs ++ g ∷ [])
distinct_more [] g d new = (λ a. a, tt)
distinct_more (x ∷ xs) g d new = (
  λ a. ⊎_elim d.0 (λ (e : x ≡ g). new (inl (sym e))) (in_longer xs g x a),
  distinct_more xs g d.1 (λ a. new (inr a)),
)

or_false : (b : Bool) → b ≡ (b || (false || false))
or_false true = refl
or_false false = refl

-- the mark of one more gate
marked_last : (list : List ℕ) (g h : ℕ) {marked : Bool} → marked ≡ has_gate list h
    → cond (eqb h g) true marked ≡ has_gate (list ++ g ∷ []) h
marked_last list g h told = grind (arith, common_steps, told, list_any-append, eqb_tells h g, or_false)

module _ (positions : List ℕ) (taken : ℕ) (marks waiting : List ℕ) (counted : ℕ) (g : ℕ)
    (is : IsCounted positions taken marks waiting counted) (there : g < length waiting) where
  pub has_word : g / 64 < length marks
  has_word = omega (arith, is.marked)

  -- it is taken where it is left, and there is room for it
  module _ (new : ¬ IsAmong g (take taken positions)) where
    pub room_left : taken < length positions
    room_left =
        omega (
          arith,
          at_most_below (length waiting) (g ∷ take taken positions) (new, is.once) (there, is.below),
          length-take-le taken positions is.within,
          is.room,
        )

    pub one_more : take (taken + 1) (put positions taken g) ≡ take taken positions ++ g ∷ []
    one_more = take_more_set positions taken g room_left

    abbrev marked_with : ℕ → List ℕ
    marked_with word = put marks (g / 64) (bit_or word (1 * 2 ^ (g % 64) % 18446744073709551616))

    now_marked : (word : ℕ) → word ≡ get_or marks (g / 64) word
        → (n : ℕ) → is_marked (marked_with word) n ≡ cond (eqb n g) true (is_marked marks n)
    now_marked word same =
        let was : word ≡ get_or marks (g / 64) 0 = same ∙ get_or_default marks (g / 64) word 0 has_word in
        marked_put marks g true (bit_or word (1 * 2 ^ (g % 64) % 18446744073709551616)) has_word
        (λ i below. bit_set word (g % 64) i (omega arith)
        ∙ ap (λ w. cond (eqb i (g % 64)) true (eqb (bit_at w i) 1)) was)

    pub takes : (word : ℕ) → word ≡ get_or marks (g / 64) word
        → IsCounted (put positions taken g) (taken + 1) (marked_with word) waiting counted
    takes word same = record {
      room = length-set positions taken g ∙ is.room;
      marked = omega (
        arith,
        is.marked,
        ap (λ n. 64 * n)
            (length-set marks (g / 64) (bit_or word (1 * 2 ^ (g % 64) % 18446744073709551616))),
      );
      few = is.few;
      within = omega (arith, room_left, length-set positions taken g);
      once = rw one_more (distinct_more (take taken positions) g is.once new);
      below = search (rules, one_more, joined);
      told = λ h. now_marked word same h
          ∙ marked_last (take taken positions) g h (is.told h)
          ∙ ap (λ xs. has_gate xs h) (sym one_more);
      paid = is.paid;
    }

  -- it is counted down to one less
  pub counts_down : (left : ℕ) → get_or waiting g 0 ≡ left + 1
      → IsCounted positions taken marks (put waiting g left) (counted + 1)
  counts_down left was =
      let as_long : length (put waiting g left) ≡ length waiting = length-set waiting g left in
      let less : sum (put waiting g left) + get_or waiting g 0 ≡ sum waiting + left =
      search (rules, sum_by-set) in record {
        room = is.room ∙ sym as_long;
        marked = rw as_long is.marked;
        few = rw as_long is.few;
        within = is.within;
        once = is.once;
        below = rw as_long is.below;
        told = is.told;
        paid = omega (arith, is.paid, less, was, as_long);
      }

-- at first no gate is taken, and each waits for at most two operands
none_marked : (words n : ℕ) → is_marked (replicate words 0) n ≡ false
none_marked words n = search (rules, zeros, bit_at-zero)

pub sum_few : (ws : List ℕ) → AllByRecursion (λ w. w ≤ 2) ws → sum ws ≤ 2 * length ws
sum_few [] few = omega arith
sum_few (w ∷ ws) few = omega (arith, few.0, sum_few ws few.1, sum_by-cons (λ x. x) w ws)

pub begins : (waiting positions : List ℕ) (words : ℕ) → length waiting ≤ LARGEST
    → AllByRecursion (λ w. w ≤ 2) waiting → length waiting ≤ 64 * words
    → positions ≡ replicate (length waiting) 0 → IsCounted positions 0 (replicate words 0) waiting 0
begins waiting positions words few at_most enough zeros =
    search (rules, length-replicate, none_marked, sum_few)

-- A set of gates whose least one stands apart from the tree of the others.

-- the words of a vector, once a change of them as a slice is written back
pub written_back : (new old : List ℕ) (len : ℕ) → len ≡ length new → take len (new ++ drop (length new) old) ≡ new
written_back new old len is = search (rules, take-append_seam)

-- the least gate and the words by other names
pub same_ready : (least : ℕ) (apart : Option ℕ) (words items : List ℕ) (first levels : ℕ) → apart ≡ Some least
    → words ≡ items → IsReady apart items first levels → IsReady (Some least) words first levels
same_ready least apart words items first levels is same ready =
    subst (λ ws. IsReady (Some least) ws first levels) (sym same) (subst (λ o. IsReady o items first levels) is ready)

pub same_gates : (least : ℕ) (apart : Option ℕ) (words items : List ℕ) (first g : ℕ) → apart ≡ Some least
    → words ≡ items → (eqb g least || is_in_tree words first g) ≡ (is_least apart g || is_in_tree items first g)
same_gates least apart words items first g is same = search rules

-- a gate is put into the tree
pub gate_put : (words new : List ℕ) (first gate : ℕ) → length words ≤ first + 1
    → ((b : ℕ) → length words ≤ b + 1 → is_marked new b ≡ cond (eqb b (first + gate)) true (is_marked words b))
    → (g : ℕ) → is_in_tree new first g ≡ cond (eqb g gate) true (is_in_tree words first g)
gate_put words new first gate within lowest g = search (rules, nat_tests)

-- the gate that stands apart is not in the tree
not_twice : (words : List ℕ) (first levels least : ℕ) → IsReady (Some least) words first levels
    → is_in_tree words first least ≡ false
not_twice words first levels least ready =
    false_from_ne_true (is_in_tree words first least) (λ set. absurd (omega (arith, ready.before.1 least set)))

pub there_already : (e t : Bool) → (e || t) ≡ (e || (e || t))
there_already true t = refl
there_already false t = refl

first_added : (a b t : Bool) → (a || cond b true t) ≡ (a || (b || t))
first_added true b t = refl
first_added false true t = refl
first_added false false t = refl

later_added : (a b t : Bool) → (b || cond a true t) ≡ (a || (b || t))
later_added true true t = refl
later_added b d t = refl

-- a gate more, where one stands apart: the earlier one of the two stands apart then, and the later one is put into the
-- tree
module _ (words new : List ℕ) (first levels least gate earlier later : ℕ)
    (ready : IsReady (Some least) words first levels)
    (other : gate ≢ least) (earlier_is : earlier ≡ min gate least) (later_is : later ≡ max gate least)
    (put : (g : ℕ) → is_in_tree new first g ≡ cond (eqb g later) true (is_in_tree words first g)) where
  pub is_added : (g : ℕ) → (eqb g earlier || is_in_tree new first g)
      ≡ (eqb g gate || (eqb g least || is_in_tree words first g))
  is_added g = search (rules, first_added, later_added, cases_lt)

  pub stays_ready : IsTree new first levels → length new ≡ length words → gate < 64 * length words - first
      → IsReady (Some earlier) new first levels
  stays_ready tree as_many fits = search (rules, eqb_tells)

-- the gate that stands apart is taken, and the tree's least one comes to stand there
module _ (words new : List ℕ) (first levels least : ℕ) (ready : IsReady (Some least) words first levels) where
  was_later : (g : ℕ) → (not (eqb g least) && (eqb g least || is_in_tree words first g)) ≡ is_in_tree words first g
  was_later g = search (rules, not_twice, eqb_tells)

  pub others_stay : (next : Option ℕ) → IfNone next ((g : ℕ) → is_in_tree words first g ≡ false)
      → IfNone next (new ≡ words) → IfSome next (λ gate. is_in_tree words first gate ≡ true)
      → IfSome next (λ gate. (g : ℕ) → is_in_tree new first g ≡ (not (eqb g gate) && is_in_tree words first g))
      → (g : ℕ) → (is_least next g || is_in_tree new first g)
      ≡ (not (eqb g least) && (eqb g least || is_in_tree words first g))
  others_stay None none same there rest g = ap (λ ws. is_in_tree ws first g) same ∙ sym (was_later g)
  others_stay (Some next) none same there rest g = search (rules, eqb_tells, was_later)

  pub next_ready : (next : Option ℕ) → IfNone next ((g : ℕ) → is_in_tree words first g ≡ false)
      → IfNone next (new ≡ words) → IfSome next (λ gate. is_in_tree words first gate ≡ true)
      → IfSome next (λ gate. (g : ℕ) → is_in_tree words first g ≡ true → gate ≤ g)
      → IfSome next (λ gate. (g : ℕ) → is_in_tree new first g ≡ (not (eqb g gate) && is_in_tree words first g))
      → length new ≡ length words → IsTree new first levels → IsReady next new first levels
  next_ready None none same there least_one rest as_many tree = record {
    tree = tree;
    before = λ g. ap (λ ws. is_in_tree ws first g) same ∙ none g;
  }
  next_ready (Some next) none same there least_one rest as_many tree = search (rules, within_words, eqb_tells)
