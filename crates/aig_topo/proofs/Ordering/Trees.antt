-- Gates by the variables that they define, and trees of words, where below bit b stands word b + 1.
use Rattle.std.proofs.Common.{◌≡◌, ◌<◌, ◌+◌, ◌∷◌, ◌++◌, ◌∙◌, ◌≢◌, ◌≤◌, ◌-◌, ◌*◌, ◌/◌, ◌%◌, ◌^◌, ℕ, List, [], Bool, cond}
use Rattle.std.proofs.Common.{eqb, length, get_or, take, None, Some, ap, ap₂, arith, suc, refl, rules, zero, true}
use Rattle.std.proofs.Common.{false, ltb, sym, subst, ⊎_elim, replicate, position, w64, length-take-le, get_or-set_same}
use Rattle.std.proofs.Common.{get_or-set_other, length-set, ne_eqb, lt-ltb, ltb-true, not}
use Rattle.std.specs.Option.{option_or}
use Rattle.std.specs.Int.{bit_at, trailing_zeros}
use Rattle.std.specs.Int.Bits.{bit_and, bit_or}
use Rattle.std.proofs.lemmas.Grind.{common_steps}
use Rattle.std.proofs.lemmas.List.Folds.{position_or_len_push}
use Rattle.std.proofs.lemmas.List.Sums.{prefix_len-le-length}
use Rattle.std.proofs.lemmas.List.{take_more, get_or_past, length-replicate}
use Rattle.std.proofs.Math.ListN.{set as put}
use Rattle.std.proofs.lemmas.Bool.{cases_lt}
use Rattle.std.proofs.lemmas.Bool.Decides.{eqb_tells}
use Rattle.std.proofs.lemmas.Nat.Bits.{bit_at-zero, bit_at-trailing_zeros, bit_at_set_same, bit_at_set_other}
use Rattle.std.proofs.lemmas.Nat.Bits.{bit_at_clear_same, bit_at_clear_other}
use Rattle.aig_circuit.specs.declared.circuit.Gate.{Gate}
use Rattle.aig_tables.specs.Parts.Marks.{is_marked}
use Rattle.aig_tables.proofs.Tables.Maps.{one_place}
use Rattle.aig_topo.specs.Order.{gate_of}
use Rattle.aig_topo.specs.Ready.{Tells, IsTree, first_bit}

-- the first place in a list that grows
position_push : {X : Type 0} (p : X → Bool) (xs : List X) (y : X)
    → position p (xs ++ y ∷ []) ≡ option_or (position p xs) (cond (p y) (Some (length xs)) None)
position_push p xs y = grind (arith, common_steps, position_or_len_push, prefix_len-le-length)

pub eqb_comm : (a b : ℕ) → eqb a b ≡ eqb b a
eqb_comm a b = grind arith

-- the first gates, and one more
pub gate_of_more : (gates : List Gate) (i v : ℕ) (g : Gate) → i < length gates
    → gate_of (take (i + 1) gates) v
    ≡ option_or (gate_of (take i gates) v) (cond (eqb v (get_or gates i g).var) (Some i) None)
gate_of_more gates i v g below =
    ap (λ gs. gate_of gs v) (take_more gates i g below)
    ∙ position_push (λ (h : Gate). eqb h.var v) (take i gates) (get_or gates i g)
    ∙ ap₂ (λ b n. option_or (gate_of (take i gates) v) (cond b (Some n) None)) (eqb_comm (get_or gates i g).var v)
    (length-take-le i gates (omega arith))

-- a table at first
pub zeros : (n i : ℕ) → get_or {A = ℕ} (replicate n 0) i 0 ≡ 0
zeros (suc n) (suc i) = zeros n i
zeros n m = refl

-- Trees of words, where below bit b stands word b + 1.

-- a word with a bit set, and one with a bit cleared
pub bit_set : (word k i : ℕ) → k < 64
    → (eqb (bit_at (bit_or word (1 * 2 ^ k % 18446744073709551616)) i) 1) ≡ cond (eqb i k) true (eqb (bit_at word i) 1)
bit_set word k i within =
    ⊎_elim (λ (t : (eqb i k ≡ true) × (i ≡ k)).
    ap (λ j. eqb (bit_at (bit_or word (1 * 2 ^ k % 18446744073709551616)) j) 1) t.1
    ∙ ap (λ b. eqb b 1) (bit_at_set_same w64 word k within)
    ∙ ap (λ b. cond b true (eqb (bit_at word i) 1)) (sym t.0))
    (λ (f : (eqb i k ≡ false) × (i ≢ k)). ap (λ b. eqb b 1) (bit_at_set_other w64 word k within i f.1)
    ∙ ap (λ b. cond b true (eqb (bit_at word i) 1)) (sym f.0)) (eqb_tells i k)

pub bit_cleared : (word k i : ℕ) → k < 64 → i < 64
    → (eqb (bit_at (bit_and word (18446744073709551615 - 1 * 2 ^ k % 18446744073709551616)) i) 1)
    ≡ cond (eqb i k) false (eqb (bit_at word i) 1)
bit_cleared word k i within within_too =
    ⊎_elim (λ (t : (eqb i k ≡ true) × (i ≡ k)).
    ap (λ j. eqb (bit_at (bit_and word (18446744073709551615 - 1 * 2 ^ k % 18446744073709551616)) j) 1) t.1
    ∙ ap (λ b. eqb b 1) (bit_at_clear_same w64 word k within)
    ∙ ap (λ b. cond b false (eqb (bit_at word i) 1)) (sym t.0))
    (λ (f : (eqb i k ≡ false) × (i ≢ k)). ap (λ b. eqb b 1) (bit_at_clear_other w64 word k within i within_too f.1)
    ∙ ap (λ b. cond b false (eqb (bit_at word i) 1)) (sym f.0)) (eqb_tells i k)

-- a bit of the words that is set or cleared
module _ (words : List ℕ) (k : ℕ) (on : Bool) (after : ℕ) (there : k / 64 < length words)
    (bits : (i : ℕ) → i < 64
    → eqb (bit_at after i) 1 ≡ cond (eqb i (k % 64)) on (eqb (bit_at (get_or words (k / 64) 0) i) 1)) where
  abbrev more : List ℕ
  more = put words (k / 64) after

  pub marked_put : (b : ℕ) → is_marked more b ≡ cond (eqb b k) on (is_marked words b)
  marked_put b = search (rules, get_or-set_same, one_place, ne_eqb, eqb_tells, get_or-set_other)

  module _ (told : (b : ℕ) → b + 1 < length words → b ≢ k → Tells words b)
      (below : k + 1 < length words → on ≡ ltb 0 (get_or words (k + 1) 0)) where
    -- each bit tells of the word below, but for the one above the word that changed
    pub tells_elsewhere : (b : ℕ) → b + 1 < length words → b + 1 ≢ k / 64 → Tells more b
    tells_elsewhere b fits other = search (rules, get_or-set_other, marked_put, eqb_tells)

    -- the one above tells of it too, where there is none, or where the word has any as before
    all_tell : (k / 64 ≢ 0 → ltb 0 (get_or words (k / 64) 0) ≡ ltb 0 after) → (b : ℕ) → b + 1 < length words
        → Tells more b
    all_tell as_before b fits =
        ⊎_elim (search (rules, marked_put, ne_eqb, get_or-set_same))
        (λ (f : (eqb (b + 1) (k / 64) ≡ false) × (b + 1 ≢ k / 64)). tells_elsewhere b fits f.1)
        (eqb_tells (b + 1) (k / 64))

    -- so the one above has to be told
    pub what_to_tell : k / 64 ≢ 0 → not (eqb after 0) ≡ ltb 0 (get_or more (k / 64 - 1 + 1) 0)
    what_to_tell some = search (rules, get_or-set_same)

  -- the lowest bits, once the ones above are told
  pub lowest_put : (told_words : List ℕ) (was : Bool) → k / 64 ≢ 0
      → ((b : ℕ) → length more ≤ b + 1 → is_marked told_words b ≡ cond (eqb b (k / 64 - 1)) was (is_marked more b))
      → (b : ℕ) → length words ≤ b + 1 → is_marked told_words b ≡ cond (eqb b k) on (is_marked words b)
  lowest_put told_words was some is b low =
      is b (omega (arith, low, length-set words (k / 64) after))
      ∙ ap (λ c. cond c was (is_marked more b))
      (ne_eqb b (k / 64 - 1) (λ e. absurd (omega (arith, e, low, there, some)))) ∙ marked_put b

not_set : (b : Bool) → (b ≡ true → ⊥) → b ≡ false
not_set true fails = absurd (fails refl)
not_set false fails = refl

-- a set bit is in a word that is there and has a bit
word_of : (words : List ℕ) (b : ℕ) → is_marked words b ≡ true → 0 < get_or words (b / 64) 0
word_of words b set = search (rules, bit_at-zero, cases_lt)

there_where_some : (words : List ℕ) (i : ℕ) → 0 < get_or words i 0 → i < length words
there_where_some words i some = search (rules, get_or_past, cases_lt)

pub within_words : (words : List ℕ) (b : ℕ) → is_marked words b ≡ true → b / 64 < length words
within_words words b set = there_where_some words (b / 64) (word_of words b set)

-- where a bit tells of a word, the one has a bit if the other is set, and the other way round
some_below : (words : List ℕ) (b : ℕ) → Tells words b → is_marked words b ≡ true → 0 < get_or words (b + 1) 0
some_below words b tells set = ltb-true _ _ (sym tells ∙ set)

set_above : (words : List ℕ) (b : ℕ) → Tells words b → 0 < get_or words (b + 1) 0 → is_marked words b ≡ true
set_above words b tells some = tells ∙ lt-ltb _ _ some

-- the lowest bit of a word
module _ (words : List ℕ) (at : ℕ) (some : 0 < get_or words at 0) (fits : get_or words at 0 < 2 ^ 64) where
  abbrev lowest : ℕ
  lowest = trailing_zeros w64 (get_or words at 0)

  pub place : lowest < 64
  place = (bit_at-trailing_zeros w64 (get_or words at 0) some fits).0

  pub lowest_set : is_marked words (64 * at + lowest) ≡ true
  lowest_set =
      let word_is : (64 * at + lowest) / 64 ≡ at = omega (arith, place) in
      let place_is : (64 * at + lowest) % 64 ≡ lowest = omega (arith, place) in
      ap₂ (λ i j. eqb (bit_at (get_or words i 0) j) 1) word_is place_is
      ∙ ap (λ n. eqb n 1) (bit_at-trailing_zeros w64 (get_or words at 0) some fits).1

  pub lowest_least : (b : ℕ) → b / 64 ≡ at → is_marked words b ≡ true → 64 * at + lowest ≤ b
  lowest_least b here set =
      ⊎_elim (λ (l : b % 64 < lowest).
      let off = ap (λ i. eqb (bit_at (get_or words i 0) (b % 64)) 1) here
      ∙ ap (λ n. eqb n 1) ((bit_at-trailing_zeros w64 (get_or words at 0) some fits).2 (b % 64) l) in
      let both : true ≡ false = sym set ∙ off in
      cc) (λ (l : lowest ≤ b % 64). omega (arith, l, here)) (cases_lt (b % 64) lowest)

-- the bit so many levels above
unfoldable pub up : ℕ → ℕ → ℕ
up zero b = b
up (suc n) b = up n b / 64 - 1

lower_level : (n level levels : ℕ) → n + level ≡ levels → first_bit level ≤ first_bit levels
unfolding first_bit
lower_level zero level levels is = let e : level ≡ levels = omega (arith, is) in omega (arith, ap first_bit e)
lower_level (suc n) level levels is = omega (arith, lower_level n (suc level) levels (omega (arith, is)))

-- a set bit of a level
pub record IsAt (words : List ℕ) (level b : ℕ) : Type 0 where
  pub from : first_bit level ≤ b
  pub below : b < 64 * first_bit level + 64
  pub set : is_marked words b ≡ true

-- no bit of a gate is below the bit that was found on its level
pub record IsLeastAt (words : List ℕ) (first levels level bit : ℕ) : Type 0 where
  pub at : IsAt words level bit
  pub least : (b : ℕ) → first ≤ b → is_marked words b ≡ true → bit ≤ up (levels - level) b

module _ (words : List ℕ) (first levels : ℕ) (tree : IsTree words first levels) where
  -- above a set gate each bit is set
  pub climbs : (n level : ℕ) → n + level ≡ levels → (b : ℕ) → first ≤ b → is_marked words b ≡ true
      → IsAt words level (up n b)
  unfolding up first_bit
  climbs zero level is b low set = search (rules, within_words)
  climbs (suc n) level is b low set =
      let later : IsAt words (suc level) (up n b) = climbs n (suc level) (omega (arith, is)) b low set in
      grind (arith, common_steps, lower_level, word_of, set_above)

  module _ (fits : (i : ℕ) → get_or words i 0 < 2 ^ 64) where
    pub at_top : 0 < get_or words 0 0 → (t : ℕ) → t ≡ trailing_zeros w64 (get_or words 0 0)
        → IsLeastAt words first levels 0 t
    unfolding first_bit
    at_top some t t_is = record {
      at = record {
        from = omega arith;
        below = omega (arith, t_is, place words 0 some (fits 0));
        set =
            ap (is_marked words) (omega (arith, t_is)) ∙ lowest_set words 0 some (fits 0);
      };
      least = λ b low set.
          let there : IsAt words 0 (up levels b) = climbs levels 0 (omega arith) b low set in
          let e : levels - 0 ≡ levels = omega arith in
          omega (
            arith,
            t_is,
            lowest_least words 0 some (fits 0) (up levels b) (omega (arith, there.below)) there.set,
            ap (λ n. up n b) e,
          );
    }

    some_there : (level bit : ℕ) → level < levels → IsLeastAt words first levels level bit
        → 0 < get_or words (bit + 1) 0
    unfolding first_bit
    some_there level bit above found =
        let deeper : first_bit (suc level) ≤ first =
        omega (arith, lower_level (levels - suc level) (suc level) levels (omega (arith, above)), tree.first_is) in
        some_below words bit (tree.told bit (omega (arith, found.at.below, deeper))) found.at.set

    pub there_below : (level bit : ℕ) → level < levels → IsLeastAt words first levels level bit → bit + 1 < length words
    there_below level bit above found = there_where_some words (bit + 1) (some_there level bit above found)

    pub found_fits : (level bit : ℕ) → level < levels → IsLeastAt words first levels level bit
        → 64 * (bit + 1) + trailing_zeros w64 (get_or words (bit + 1) 0) < 2199023255552
    found_fits level bit above found = search (rules, there_below, place, some_there)

    pub one_down : (level bit : ℕ) → level < levels → IsLeastAt words first levels level bit → (t : ℕ)
        → t ≡ trailing_zeros w64 (get_or words (bit + 1) 0)
        → IsLeastAt words first levels (level + 1) (64 * (bit + 1) + t)
    unfolding first_bit up
    one_down level bit above found t t_is =
        let some : 0 < get_or words (bit + 1) 0 = some_there level bit above found in
        let room : t < 64 = omega (arith, t_is, place words (bit + 1) some (fits (bit + 1))) in
        let next = ap first_bit (let e : level + 1 ≡ suc level = omega arith in e) in record {
          at = record {
            from = omega (arith, found.at.from, next);
            below = omega (arith, found.at.below, room, next);
            set = ap (λ j. is_marked words (64 * (bit + 1) + j)) t_is
                ∙ lowest_set words (bit + 1) some (fits (bit + 1));
          };
          least = λ b low set.
              let n : ℕ = levels - (level + 1) in
              let x : ℕ = up n b in
              let there : IsAt words (level + 1) x = climbs n (level + 1) (omega (arith, above)) b low set in
              let above_it : bit ≤ x / 64 - 1 = let e : levels - level ≡ suc n = omega (arith, above) in
              omega (arith, found.least b low set, ap (λ m. up m b) e) in
              ⊎_elim (λ (e : (eqb (x / 64) (bit + 1) ≡ true) × (x / 64 ≡ bit + 1)).
              omega (arith, t_is, lowest_least words (bit + 1) some (fits (bit + 1)) x e.1 there.set))
              (λ (f : (eqb (x / 64) (bit + 1) ≡ false) × (x / 64 ≢ bit + 1)).
              omega (arith, room, above_it, f.1, there.from, next)) (eqb_tells (x / 64) (bit + 1));
        }

    pub at_end : (bit b : ℕ) → IsLeastAt words first levels levels bit → first ≤ b → is_marked words b ≡ true → bit ≤ b
    unfolding up
    at_end bit b found low set = search rules

  -- an empty word at the top, and no gate
  pub none_set : get_or words 0 0 ≡ 0 → (b : ℕ) → first ≤ b → is_marked words b ≡ false
  unfolding first_bit
  none_set empty b low =
      not_set (is_marked words b) (λ set.
      let there : IsAt words 0 (up levels b) = climbs levels 0 (omega arith) b low set in
      let at : up levels b / 64 ≡ 0 = omega (arith, there.below) in
      omega (arith, subst (λ i. 0 < get_or words i 0) at (word_of words (up levels b) there.set), empty))

-- bits of gates that change leave a tree
pub still_tree : (words new : List ℕ) (first levels bit : ℕ) (on : Bool) → IsTree words first levels → first ≤ bit
    → length new ≡ length words → ((b : ℕ) → b + 1 < length words → Tells new b)
    → ((b : ℕ) → length words ≤ b + 1 → is_marked new b ≡ cond (eqb b bit) on (is_marked words b))
    → IsTree new first levels
still_tree words new first levels bit on tree low same tells lowest = search (rules, ne_eqb, get_or_past, cases_lt)

-- a tree without gates
pub empty_tree : (words : List ℕ) (n first levels gates : ℕ) → words ≡ replicate n 0 → n ≡ (first + gates) / 64 + 1
    → first ≡ first_bit levels → first ≤ 2 * gates → gates < 63 * first + 64 → gates < 2147483648
    → IsTree words first levels
empty_tree words n first levels gates is n_is first_is few all many =
    search (rules, length-replicate, zeros, bit_at-zero)
