-- The shortest spelling of a number: it is one, there is no other, and it is stored byte by byte.
use Rattle.std.proofs.Common.{◌≡◌, ◌+◌, ◌*◌, ◌/◌, ◌%◌, ◌^◌, ◌<◌, ◌≤◌, ◌∷◌, ◌∙◌, ◌++◌, rules, ℕ, zero, suc, List, []}
use Rattle.std.proofs.Common.{length, refl, sym, ap, subst, arith, inl, inr, min, take, append_assoc, slice_set}
use Rattle.std.proofs.lemmas.Bool.{lt-ltb, le-ltb, cases_lt}
use Rattle.std.proofs.lemmas.Grind.{common_steps}
use Rattle.std.proofs.lemmas.List.{length-set, take-set-le, take_more_set}
use Rattle.aig_binary.specs.Delta.{value_of_groups, AreGroups, IsDelta, IsShortest, last_byte, shortest_groups}
use Rattle.aig_binary.specs.Delta.{shortest_delta}
use Rattle.aig_binary.proofs.Deltas.Reading.{one_value}

shortest_last : (more value : ℕ) → value < 128 → shortest_groups more value ≡ value ∷ []
unfolding shortest_groups
shortest_last zero value h = refl
shortest_last (suc more) value h = rw (lt-ltb value 128 h) refl

shortest_more : (more value : ℕ) → 128 ≤ value
    → shortest_groups (suc more) value ≡ (128 + value % 128) ∷ shortest_groups more (value / 128)
unfolding shortest_groups
shortest_more more value h = rw (le-ltb value 128 h) refl

shortest_final : (value : ℕ) → shortest_groups zero value ≡ value ∷ []
unfolding shortest_groups
shortest_final value = refl

one_group_less : (more value : ℕ) → value < 128 ^ suc more → value / 128 < 128 ^ more
one_group_less more value h = search rules

-- groups that spell the number, at most so many, with no zeros at the end of a number that is not 0
record Spell (most value : ℕ) (bytes : List ℕ) : Type 0 where
  pub groups : AreGroups bytes
  pub some : 0 < length bytes
  pub short : length bytes ≤ most
  pub spells : value_of_groups bytes ≡ value
  pub ends : 0 < value → 0 < last_byte bytes

one_spells : (more value : ℕ) → value < 128 → Spell (suc more) value (value ∷ [])
one_spells more value h =
    record { groups = h; some = omega arith; short = omega arith; spells = one_value value h; ends = λ p. p }

shortest_spell : (more value : ℕ) → value < 128 ^ suc more → Spell (suc more) value (shortest_groups more value)
shortest_spell zero value h = subst (Spell 1 value) (sym (shortest_final value)) (one_spells 0 value h)
shortest_spell (suc more) value h =
    search (
      rules,
      cases_lt,
      shortest_last,
      one_spells,
      shortest_more,
      one_group_less,
      shortest_spell more
          (value / 128) (one_group_less (suc more) value h),
    )

spell_shortest : (value : ℕ) → value < 2 ^ 32 → Spell 5 value (shortest_delta value)
unfolding shortest_delta
spell_shortest value h = shortest_spell 4 value (omega arith)

pub shortest_is_delta : (value : ℕ) → value < 2 ^ 32 → IsDelta (shortest_delta value) value
shortest_is_delta value h =
    let s = spell_shortest value h in record { groups = s.groups; short = s.short; spells = s.spells; fits = h }

shortest_some : (value : ℕ) → value < 2 ^ 32 → 0 < length (shortest_delta value)
shortest_some value h = (spell_shortest value h).some

one_byte : (value : ℕ) → value < 128 → length (shortest_delta value) ≡ 1
unfolding shortest_delta
one_byte value h = ap length (shortest_last 4 value h)

pub shortest_is_shortest : (value : ℕ) → value < 2 ^ 32 → IsShortest (shortest_delta value)
shortest_is_shortest value h = search (rules, cases_lt, one_byte, spell_shortest)

-- a number whose last group is not 0 is not 0
positive : (bytes : List ℕ) → AreGroups bytes → 0 < last_byte bytes → 0 < value_of_groups bytes
positive [] h last = absurd h
positive (b ∷ []) h last = let e = one_value b h in omega arith
positive (b ∷ c ∷ bytes) h last = let others = positive (c ∷ bytes) h.2 last in omega arith

several : (b c : ℕ) (bytes : List ℕ) → IsShortest (b ∷ c ∷ bytes) → 0 < last_byte (c ∷ bytes)
several b c bytes (inl one) = absurd (omega arith)
several b c bytes (inr last) = last

shortest_is : (more : ℕ) (bytes : List ℕ) → AreGroups bytes → IsShortest bytes → length bytes ≤ suc more
    → bytes ≡ shortest_groups more (value_of_groups bytes)
shortest_is more [] h none short = absurd h
shortest_is more (b ∷ []) h none short = search (rules, one_value, shortest_last)
shortest_is zero (b ∷ c ∷ bytes) h none short = absurd (omega arith)
shortest_is (suc more) (b ∷ c ∷ bytes) h none short =
    let last = several b c bytes none in
    let n = value_of_groups (c ∷ bytes) in
    let some : 0 < n = positive (c ∷ bytes) h.2 last in
    let high : 128 ≤ b = h.0 in
    let byte : b < 256 = h.1 in
    let first : b ≡ 128 + (b % 128 + 128 * n) % 128 = omega arith in
    let others : n ≡ (b % 128 + 128 * n) / 128 = omega arith in
    ap (λ (x : ℕ). x ∷ c ∷ bytes) first
    ∙ ap (λ (xs : List ℕ). (128 + (b % 128 + 128 * n) % 128) ∷ xs)
    (shortest_is more (c ∷ bytes) h.2 (inr last) (omega arith) ∙ ap (shortest_groups more) others)
    ∙ sym (shortest_more more (b % 128 + 128 * n) (omega arith))

pub shortest_is_one : (bytes : List ℕ) (value : ℕ) → IsDelta bytes value → IsShortest bytes
    → bytes ≡ shortest_delta value
unfolding shortest_delta
shortest_is_one bytes value h none = shortest_is 4 bytes h.groups none h.short ∙ ap (shortest_groups 4) h.spells

-- The shortest spelling of a number, stored byte by byte.
shortest_two : (v : ℕ) → 128 ≤ v → v / 128 < 128 → shortest_groups 4 v ≡ (128 + v % 128) ∷ v / 128 ∷ []
shortest_two v high low =
    shortest_more 3 v high ∙ ap (λ (xs : List ℕ). (128 + v % 128) ∷ xs) (shortest_last 3 (v / 128) low)

-- a number of one or two groups: two bytes are stored, and it is told where it ends
pub short_stored : (bytes : List ℕ) (at v : ℕ) → v < 2 ^ 14 → at + 2 ≤ length bytes
    → take (at + 1 + min (v / 128) 1)
    (slice_set (slice_set bytes at (v % 128 + 128 * min (v / 128) 1)) (at + 1) (v / 128))
    ≡ take at bytes ++ shortest_delta v
unfolding shortest_delta
short_stored bytes at v few room =
    grind (arith, common_steps, cases_lt, slice_set, take-set-le, take_more_set, shortest_last, shortest_two)

-- the groups of a number, stored one after the other from a place on: what is left of it is still to come
pub record IsGoingOn (old bytes : List ℕ) (at end value left : ℕ) : Type 0 where
  -- how many groups follow the next one at most
  pub more : ℕ
  pub place : end + more ≡ at + 4
  pub fits : left < 128 ^ suc more
  pub len : length bytes ≡ length old
  pub text : take end bytes ++ shortest_groups more left ≡ take at old ++ shortest_delta value

pub none_stored : (bytes : List ℕ) (at value : ℕ) → value < 2 ^ 32 → IsGoingOn bytes bytes at at value value
unfolding shortest_delta
none_stored bytes at value fits =
    record { more = 4; place = refl; fits = omega arith; len = refl; text = refl }

stored_next : (old bytes : List ℕ) (at end value left more : ℕ) → end + more ≡ at + 4 → left < 128 ^ suc more
    → length bytes ≡ length old → take end bytes ++ shortest_groups more left ≡ take at old ++ shortest_delta value
    → 128 ≤ left → end < length bytes
    → IsGoingOn old (slice_set bytes end (128 + left % 128)) at (end + 1) value (left / 128)
stored_next old bytes at end value left zero place fits len text high room =
    let low : left < 128 = fits in absurd (omega arith)
stored_next old bytes at end value left (suc more) place fits len text high room =
    search (rules, one_group_less, length-set, take_more_set, append_assoc, shortest_more)

-- one group more
pub group_stored : (old bytes : List ℕ) (at end value left : ℕ) → IsGoingOn old bytes at end value left → 128 ≤ left
    → end < length bytes → IsGoingOn old (slice_set bytes end (128 + left % 128)) at (end + 1) value (left / 128)
group_stored old bytes at end value left h high room =
    stored_next old bytes at end value left h.more h.place h.fits h.len h.text high room

-- the last group
pub all_stored : (old bytes : List ℕ) (at end value left : ℕ) → IsGoingOn old bytes at end value left → left < 128
    → end < length bytes → take (end + 1) (slice_set bytes end left) ≡ take at old ++ shortest_delta value
all_stored old bytes at end value left h low room = search (rules, take_more_set, shortest_last)

-- a number has a byte at least
pub some_stored : (bytes : List ℕ) (n value : ℕ) → value < 2 ^ 32 → take n bytes ≡ shortest_delta value → 0 < n
some_stored bytes zero value fits e =
    let none : 0 ≡ length (shortest_delta value) = ap length e in search (rules, shortest_some)
some_stored bytes (suc n) value fits e = omega arith
