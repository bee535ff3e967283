-- Places of announced indices: each has one of its own.
use Rattle.std.proofs.Common.{◌≡◌, ◌≢◌, ◌+◌, ◌-◌, ◌/◌, ◌%◌, ◌^◌, ◌<◌, ◌≤◌, ◌∙◌, ℕ, List, Bool, true, cond, eqb, ltb}
use Rattle.std.proofs.Common.{length, get_or, None, ap, subst, ⊎_elim, arith}
use Rattle.std.specs.Prelude.{count_ones}
use Rattle.std.specs.Int.{bit_at}
use Rattle.std.proofs.Math.ListN.{set as put}
use Rattle.std.proofs.lemmas.Bool.{cases_lt, cases_order, eqb-true}
use Rattle.std.proofs.lemmas.Grind.{common_steps}
use Rattle.std.proofs.lemmas.List.{get_or_past, get_or-set_same, get_or-set_other, length-set}
use Rattle.std.proofs.lemmas.Nat.{pow_pos, mod-pow-add, mod_below, ones_cat, shr_split}
use Rattle.std.proofs.lemmas.Nat.Bits.{bit_at-zero}
use Rattle.aig_tables.specs.declared.var_map.ranks.Word.{Word}
use Rattle.aig_tables.specs.Parts.Places.{has_place, place_of, number_of, number_at_place}
use Rattle.aig_tables.specs.Parts.Ranks.{word_at, is_announced, rank_of, end_of, IsRanking}
use Rattle.aig_tables.proofs.Tables.Maps.{HasNew}

-- the bits below a place, and those from there up to another one
parts : (n j k : ℕ) → count_ones (n % 2 ^ (j + k)) ≡ count_ones (n / 2 ^ k % 2 ^ j) + count_ones (n % 2 ^ k)
parts n j k =
    ap count_ones (mod-pow-add n j k) ∙ ones_cat k (n / 2 ^ k % 2 ^ j) (n % 2 ^ k) (mod_below n (2 ^ k) (pow_pos k))

one_more : (n k : ℕ) → bit_at n k ≡ 1 → count_ones (n % 2 ^ (1 + k)) ≡ 1 + count_ones (n % 2 ^ k)
unfolding lib.Count.ones
one_more n k set = parts n 1 k ∙ ap (λ b. count_ones b + count_ones (n % 2 ^ k)) set

-- where a bit is set, there are fewer below it than below a later place
rises : (n i j : ℕ) → i < j → bit_at n i ≡ 1 → count_ones (n % 2 ^ i) < count_ones (n % 2 ^ j)
rises n i j before set =
    let more = one_more n i set in
    let all = parts n (j - (1 + i)) (1 + i) in
    let same : j - (1 + i) + (1 + i) ≡ j = omega (arith, before) in
    subst (λ m. count_ones (n % 2 ^ i) < count_ones (n % 2 ^ m)) same (omega (arith, more, all))

-- and fewer than in the whole number
within : (n i : ℕ) → bit_at n i ≡ 1 → count_ones (n % 2 ^ i) < count_ones n
within n i set =
    let more = one_more n i set in
    let k = 1 + i in
    let all = ones_cat k (n / 2 ^ k) (n % 2 ^ k) (mod_below n (2 ^ k) (pow_pos k)) in
    let whole = ap count_ones (shr_split n k) in
    omega (arith, more, all, whole)

-- one more word that counts the bits of those before it
pub one_more_word : (words : List Word) (i before bits : ℕ) → i < length words → IsRanking words i before
    → IsRanking (put words i (record { bits = bits; before = before })) (i + 1) (before + count_ones bits)
one_more_word words i before bits inside ranking =
    let word : Word = record { bits = bits; before = before } in
    let blank : Word = record { bits = 0; before = 0 } in
    let here = get_or-set_same words i word blank inside in
    let elsewhere = λ (w : ℕ) (h : w ≢ i). get_or-set_other words i w word blank h in
    record {
      behind = λ v w less below.
          let before_v = elsewhere v (omega (arith, less, below)) in
          ⊎_elim
          (λ (h : w < i).
          let w_same = elsewhere w (omega (arith, h)) in
          let was = ranking.behind v w less h in
          rw before_v (rw w_same was))
          (λ (h : i ≤ w).
          let w_is : i ≡ w = omega (arith, h, below) in
          let was = ranking.below v (omega (arith, less, below)) in
          let counted = put words i word in
          rw before_v (subst (λ x. end_of (word_at words v) ≤ (word_at counted x).before) w_is (rw here was)))
          (cases_lt w i);
      below = λ w below. ⊎_elim
          (λ (h : w < i).
          let w_same = elsewhere w (omega (arith, h)) in
          let was = ranking.below w h in
          rw w_same (omega (arith, was)))
          (λ (h : i ≤ w).
          let w_is : i ≡ w = omega (arith, h, below) in
          subst (λ x. end_of (word_at (put words i word) x) ≤ before + count_ones bits) w_is (rw here (omega arith)))
          (cases_lt w i);
    }

-- a number at the place of one more index, where no other index has that place
more_at_place : (covered : ℕ → Bool) (place : ℕ → ℕ) (places : List ℕ) (k v : ℕ) → covered k ≡ true
    → place k < length places → get_or places (place k) 0 ≡ 0
    → ((q : ℕ) → covered q ≡ true → place q ≡ place k → q ≡ k)
    → HasNew (λ q. cond (covered q) (number_at_place (get_or places (place q) 0)) None)
    (λ q. cond (covered q) (number_at_place (get_or (put places (place k) (v + 1)) (place q) 0)) None) k v
more_at_place covered place places k v has below none one q =
    let own = one q in
    let here = get_or-set_same places (place k) (v + 1) 0 below in
    let elsewhere = get_or-set_other places (place k) (place q) (v + 1) 0 in
    grind (arith, common_steps, own, here, elsewhere, has, none)

module _ (words : List Word) (count : ℕ) (ranking : IsRanking words (length words) count) where
  set_bit : (q : ℕ) → is_announced words q ≡ true → bit_at (word_at words (q / 32)).bits (q % 32) ≡ 1
  set_bit q told = eqb-true _ _ told

  pub has_word : (q : ℕ) → is_announced words q ≡ true → q / 32 < length words
  has_word q told = ⊎_elim (λ (h : q / 32 < length words). h)
      (λ (h : length words ≤ q / 32).
      let none = get_or_past words (q / 32) (record { bits = 0; before = 0 }) h in
      let zeros = bit_at-zero (q % 32) in
      let set = set_bit q told in
      absurd (grind (arith, common_steps, none, zeros, set)))
      (cases_lt (q / 32) (length words))

  before_end : (q : ℕ) → is_announced words q ≡ true → rank_of words q < end_of (word_at words (q / 32))
  before_end q told =
      let fewer = within (word_at words (q / 32)).bits (q % 32) (set_bit q told) in
      omega (arith, fewer)

  pub rank_below : (q : ℕ) → is_announced words q ≡ true → rank_of words q < count
  rank_below q told =
      let ends = before_end q told in
      let all = ranking.below (q / 32) (has_word q told) in
      omega (arith, ends, all)

  ranks_rise : (p q : ℕ) → is_announced words p ≡ true → is_announced words q ≡ true → p < q
      → rank_of words p < rank_of words q
  ranks_rise p q p_told q_told less = ⊎_elim
      (λ (h : p / 32 < q / 32).
      let ends = before_end p p_told in
      let behind = ranking.behind (p / 32) (q / 32) h (has_word q q_told) in
      omega (arith, ends, behind))
      (λ (h : q / 32 ≤ p / 32).
      let same : p / 32 ≡ q / 32 = omega (arith, h, less) in
      let place : p % 32 < q % 32 = omega (arith, h, less) in
      let more = rises (word_at words (p / 32)).bits (p % 32) (q % 32) place (set_bit p p_told) in
      subst (λ w. rank_of words p < (word_at words w).before + count_ones ((word_at words w).bits % 2 ^ (q % 32)))
      same (omega (arith, more)))
      (cases_lt (p / 32) (q / 32))

  -- no two have one place
  pub one_rank : (p q : ℕ) → is_announced words p ≡ true → is_announced words q ≡ true
      → rank_of words p ≡ rank_of words q → p ≡ q
  one_rank p q p_told q_told same = ⊎_elim (λ (e : p ≡ q). e)
      (λ order. ⊎_elim
      (λ (h : p < q). let rise = ranks_rise p q p_told q_told h in absurd (omega (arith, rise, same)))
      (λ (h : q < p). let rise = ranks_rise q p q_told p_told h in absurd (omega (arith, rise, same)))
      order)
      (cases_order p q)

  module _ (places : List ℕ) (room : count ≤ length places) where
    pub place_below : (q : ℕ) → has_place words places q ≡ true → place_of words q < length places
    place_below q has =
        let below = rank_below q in
        grind (arith, common_steps, below, has, room)

    one_place : (p q : ℕ) → has_place words places p ≡ true → has_place words places q ≡ true
        → place_of words p ≡ place_of words q → p ≡ q
    one_place p q p_has q_has same =
        let one = one_rank p q in
        grind (arith, common_steps, one, p_has, q_has, same)

    same_places : (k x q : ℕ) → has_place words (put places k x) q ≡ has_place words places q
    same_places k x q =
        ap (λ n. cond (eqb (length words) 0) (ltb q n) (is_announced words q)) (length-set places k x)

    -- one more number, where there is none yet
    pub more_numbers : (k v : ℕ) → has_place words places k ≡ true → get_or places (place_of words k) 0 ≡ 0
        → HasNew (number_of words places) (number_of words (put places (place_of words k) (v + 1))) k v
    more_numbers k v has none q =
        ap (λ b. cond b (number_at_place (get_or (put places (place_of words k) (v + 1)) (place_of words q) 0)) None)
        (same_places (place_of words k) (v + 1) q)
        ∙ more_at_place (has_place words places) (place_of words) places k v has (place_below k has) none
        (λ p p_has. one_place p k p_has has) q
