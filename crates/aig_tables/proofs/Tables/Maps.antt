-- Finite maps of indices, by what a function gives to each, and what is read as one.
use Rattle.std.proofs.Common.{◌≡◌, ◌<◌, ◌≤◌, ◌^◌, ◌∙◌, ◌*◌, ◌/◌, ◌%◌, ◌||◌, ℕ, Bool, true}
use Rattle.std.proofs.Common.{false, zero, suc, cond, eqb, Option, None, Some, refl, sym, ap, ⊎_elim, arith, ap₂, List}
use Rattle.std.proofs.Common.{length, get_or, is_some, nat_cmp, w64}
use Rattle.std.proofs.Common.{get_or-set_same, get_or-set_other}
use Rattle.std.specs.Option.{option_or}
use Rattle.std.specs.Cmp.{unsigned_tied}
use Rattle.std.specs.FinMap.{FinMap, get, insert, find, empty, get-from_entries, get-insert, get-empty, same_map}
use Rattle.std.specs.FinMap.{nat_cmp-IsAntisymmetric, contains_key, contains_key-keys}
use Rattle.std.specs.FinMap as map
use Rattle.std.specs.FinSet as set
use Rattle.std.specs.FinSet.{contains-from_list, contains-insert, contains-empty, same_set}
use Rattle.std.specs.Int.Bits.{bit_or}
use Rattle.std.proofs.lemmas.Bool.{cases_lt}
use Rattle.std.proofs.lemmas.Cmp.{nat_cmp_total}
use Rattle.std.proofs.lemmas.Grind.{common_steps}
use Rattle.std.proofs.Math.ListN.{set as put}
use Rattle.std.proofs.lemmas.List.{get_or_default}
use Rattle.std.proofs.lemmas.Nat.Bits.{bit_at_set_same, bit_at_set_other}
use Rattle.aig_tables.specs.VarMap.{with_new, keys_of}
use Rattle.aig_tables.specs.Parts.Places.{entries_below, map_of, kept_at, mark_of}

-- a function that has a value at one more index, unless it had one there
abbrev pub HasNew : {T : Type 0} → (ℕ → Option T) → (ℕ → Option T) → ℕ → T → Type 0
HasNew old new k v = (q : ℕ) → new q ≡ option_or (old q) (cond (eqb q k) (Some v) None)

module _ {T : Type 0} (value : ℕ → Option T) where
  past : (n q : ℕ) → n ≤ q → find nat_cmp q (entries_below value n) ≡ None
  unfolding entries_below
  past zero q h = refl
  past (suc n) q h =
      let before = past n q (omega arith) in
      let tied = unsigned_tied q n in
      grind (arith, common_steps, before, tied)

  -- of the indices below the bound, each has the value that the function gives
  found : (n q : ℕ) → q < n → find nat_cmp q (entries_below value n) ≡ value q
  unfolding entries_below
  found zero q h = absurd (omega arith)
  found (suc n) q h =
      let before = found n q in
      let beyond = past n q in
      let tied = unsigned_tied q n in
      grind (arith, common_steps, before, beyond, tied)

  pub map_has : (q : ℕ) → q < 2 ^ 32 → get (map_of value) q ≡ value q
  unfolding map_of
  map_has q below = get-from_entries nat_cmp_total (entries_below value (2 ^ 32)) q ∙ found (2 ^ 32) q below

  map_past : (q : ℕ) → 2 ^ 32 ≤ q → get (map_of value) q ≡ None
  unfolding map_of
  map_past q h = get-from_entries nat_cmp_total (entries_below value (2 ^ 32)) q ∙ past (2 ^ 32) q h

  -- where no index has a value
  pub nothing : ((q : ℕ) → value q ≡ None) → map_of value ≡ empty
  nothing none = same_map nat_cmp_total nat_cmp-IsAntisymmetric _ _ (λ q.
      ⊎_elim (λ (h : q < 2 ^ 32). map_has q h ∙ none q) (λ (h : 2 ^ 32 ≤ q). map_past q h) (cases_lt q (2 ^ 32))
      ∙ sym (get-empty nat_cmp q))

module _ {T : Type 0} (m : FinMap nat_cmp T) (k : ℕ) (v : T) where
  inserted : (q : ℕ) → get (insert m k v) q ≡ cond (eqb q k) (Some v) (get m q)
  inserted q = get-insert nat_cmp_total m k v q ∙ ap (λ b. cond b (Some v) (get m q)) (unsigned_tied q k)

  -- what a map has that got a value, unless it had one
  pub get-with_new : HasNew (get m) (get (with_new m k v)) k v
  get-with_new q = grind (arith, common_steps, inserted)

-- a function that has a value at one more index
pub grown : {T : Type 0} (old new : ℕ → Option T) (k : ℕ) (v : T) → k < 2 ^ 32 → HasNew old new k v
    → map_of new ≡ with_new (map_of old) k v
grown old new k v below more = same_map nat_cmp_total nat_cmp-IsAntisymmetric _ _ (λ q.
    let told = more q in
    let has = get-with_new (map_of old) k v q in
    let old_has = map_has old q in
    let new_has = map_has new q in
    let old_past = map_past old q in
    let new_past = map_past new q in
    rw has (grind (arith, common_steps, told, old_has, new_has, old_past, new_past)))

-- what is kept in its place, or else among the others
module _ {T : Type 0} (covered : ℕ → Bool) (held : ℕ → Option T) (others : FinMap nat_cmp T) where
  pub more_in_place : (k : ℕ) (v : T) (still : ℕ → Bool) (more : ℕ → Option T) → covered k ≡ true
      → ((q : ℕ) → still q ≡ covered q) → HasNew held more k v
      → HasNew (kept_at covered held others) (kept_at still more others) k v
  more_in_place k v still more has same is q =
      let told = is q in
      let kept = same q in
      grind (arith, common_steps, told, kept)

  pub more_elsewhere : (k : ℕ) (v : T) (more : FinMap nat_cmp T) → covered k ≡ false → more ≡ with_new others k v
      → HasNew (kept_at covered held others) (kept_at covered held more) k v
  more_elsewhere k v more lacks is q =
      let has = get-with_new others k v q in
      rw is (grind (arith, common_steps, has))

  pub none_kept : ((q : ℕ) → held q ≡ None) → others ≡ empty → (q : ℕ) → kept_at covered held others q ≡ None
  none_kept none nothing_there q = grind (arith, common_steps, none, get-empty)

-- Sets of variables, as the keys of maps.
module _ {T : Type 0} where
  pub has_key : (m : FinMap nat_cmp T) (q : ℕ) → set.contains (keys_of m) q ≡ contains_key m q
  has_key m q = contains-from_list nat_cmp_total (map.keys m) q ∙ sym (contains_key-keys m q)

  some_or : (o : Option T) (b : Bool) (v : T) → is_some (option_or o (cond b (Some v) None)) ≡ (b || is_some o)
  some_or o b v = grind (arith, common_steps)

  pub one_more_key : (m : FinMap nat_cmp T) (k : ℕ) (v : T) → keys_of (with_new m k v) ≡ set.insert (keys_of m) k
  one_more_key m k v = same_set nat_cmp_total nat_cmp-IsAntisymmetric _ _ (λ q.
      has_key (with_new m k v) q ∙ ap is_some (get-with_new m k v q) ∙ some_or (map.get m q) (eqb q k) v
      ∙ ap₂ (λ a b. a || b) (sym (unsigned_tied q k)) (sym (has_key m q))
      ∙ sym (contains-insert nat_cmp_total (keys_of m) k q))

  pub no_keys : (m : FinMap nat_cmp T) → m ≡ map.empty → keys_of m ≡ set.empty
  no_keys m none = same_set nat_cmp_total nat_cmp-IsAntisymmetric _ _ (λ q.
      has_key m q ∙ ap (λ n. contains_key n q) none ∙ ap is_some (get-empty nat_cmp q) ∙ sym (contains-empty nat_cmp q))

-- Tables of bits, read as what they have of indices.

-- a word with one more bit
abbrev with_bit : ℕ → ℕ → ℕ
with_bit word k = bit_or word (1 * 2 ^ k % 18446744073709551616)

-- two numbers of one word and one place in it are one
pub one_place : (i k : ℕ) → i / 64 ≡ k / 64 → i % 64 ≡ k % 64 → i ≡ k
one_place i k p q = omega (arith, p, q)

pub more_marks : (words : List ℕ) (k word : ℕ) → k / 64 < length words → word ≡ get_or words (k / 64) word
    → HasNew (mark_of words) (mark_of (put words (k / 64) (with_bit word (k % 64)))) k tt
more_marks words k word below is i =
    let was = is ∙ get_or_default words (k / 64) word 0 below in
    let set = bit_at_set_same w64 word (k % 64) (omega arith) in
    let kept = bit_at_set_other w64 word (k % 64) (omega arith) (i % 64) in
    let one = one_place i k in
    let here = get_or-set_same words (k / 64) (with_bit word (k % 64)) 0 below in
    let elsewhere = get_or-set_other words (k / 64) (i / 64) (with_bit word (k % 64)) 0 in
    grind (arith, common_steps, was, set, kept, one, here, elsewhere)
