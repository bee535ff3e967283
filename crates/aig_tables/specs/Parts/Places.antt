-- Where the values of variables are kept: in places by their indices, in slots near one that an index chooses, and in
-- trees.
use Rattle.std.specs.Prelude.{ℕ, zero, suc, ◌≡◌, ◌==◌, ◌+◌, ◌*◌, ◌-◌, ◌/◌, ◌%◌, ◌^◌, ◌<◌, ◌&&◌, ◌||◌, List, [], ◌∷◌}
use Rattle.std.specs.Prelude.{Bool, Option, None, Some, All, length, take, drop, slice_index_or, nat_lt}
use Rattle.std.specs.Prelude.{if◌then◌else◌}
use Rattle.std.specs.Option.{option_or}
use Rattle.std.specs.Ordering.{nat_cmp}
use Rattle.std.specs.BTreeMap.{BTreeMap, get}
use Rattle.std.specs.FinMap as map
use Rattle.aig_tables.specs.declared.var_map.slot.Slot.{Slot}
use Rattle.aig_tables.specs.declared.var_map.spread.TheConstants.{MULTIPLIER, WINDOW}
use Rattle.aig_tables.specs.declared.var_map.ranks.Word.{Word}
use Rattle.aig_tables.specs.Parts.Marks.{is_marked}
use Rattle.aig_tables.specs.Parts.Ranks.{is_announced, rank_of}

-- nothing more is known of an index than that its bit is set
abbrev pub mark_of : List ℕ → ℕ → Option (Unit {0})
mark_of words index = if is_marked words index then Some tt else None

-- a place has one more than the number, and 0 where there is none
abbrev pub number_at_place : ℕ → Option ℕ
number_at_place place = if place == 0 then None else Some (place - 1)

-- whether an index has a place: each below their number, or else, where there are words, each that is announced
abbrev pub has_place : List Word → List ℕ → ℕ → Bool
has_place words places index =
    if length words == 0 then nat_lt index (length places) else is_announced words index

-- the place of an index: the index itself, or else, where there are words, its rank
abbrev pub place_of : List Word → ℕ → ℕ
place_of words index = if length words == 0 then index else rank_of words index

-- the number that the place of an index tells, where it has one
abbrev pub number_of : List Word → List ℕ → ℕ → Option ℕ
number_of words places index =
    if has_place words places index then number_at_place (slice_index_or places (place_of words index) 0) else None

-- where the window of an index starts, of so many slots: multiples of this odd number spread over all of them
abbrev pub start_of : ℕ → ℕ → ℕ
start_of starts index = index * MULTIPLIER % 2 ^ 32 * starts / 2 ^ 32

-- the slots in which an index may stand
abbrev pub window_of : {T : Type 0} → ℕ → List (Slot T) → ℕ → List (Slot T)
window_of starts slots index =
    if nat_lt 0 index && nat_lt index (2 ^ 31) then take WINDOW (drop (start_of starts index) slots) else []

-- whether a slot has the index or is empty
abbrev pub ends_search : {T : Type 0} → ℕ → Slot T → Bool
ends_search index slot = slot.index == index || slot.index == 0

-- what the first slot with an index has
abbrev pub stored : {T : Type 0} → ℕ → List (Slot T) → Option T
stored index [] = None
stored index (slot ∷ slots) = if slot.index == index then Some slot.value else stored index slots

-- what is seen of an index up to the first empty slot, or else what the tree has
abbrev pub seen : {T : Type 0} → ℕ → List (Slot T) → Option T → Option T
seen index [] other = other
seen index (slot ∷ slots) other =
    if slot.index == index then Some slot.value else if slot.index == 0 then None else seen index slots other

-- what a slot has for an index, or the tree
abbrev pub spread_at : {T : Type 0} → ℕ → List (Slot T) → BTreeMap ℕ T → ℕ → Option T
spread_at starts slots others index =
    option_or (stored index (window_of starts slots index)) (get nat_cmp others index)

-- there are slots for each window, and none of its index is after an empty one
pub record IsSpread {T : Type 0} (starts : ℕ) (slots : List (Slot T)) (others : BTreeMap ℕ T) : Type 0 where
  pub some : 0 < starts
  pub few : starts < 2 ^ 32
  pub room : length slots ≡ starts + WINDOW
  pub small : All (λ slot. slot.index < 2 ^ 31) slots
  pub in_sight : (index : ℕ) → spread_at starts slots others index
      ≡ seen index (window_of starts slots index) (get nat_cmp others index)

-- what the place of an index holds where it has one, and else what the others have
abbrev pub kept_at : {T : Type 0} → (ℕ → Bool) → (ℕ → Option T) → map.FinMap nat_cmp T → ℕ → Option T
kept_at covered held others index = if covered index then held index else map.get others index

-- an entry in front, where there is a value
abbrev pub with_entry : {T : Type 0} → ℕ → Option T → List (ℕ × T) → List (ℕ × T)
with_entry index None entries = entries
with_entry index (Some value) entries = (index, value) ∷ entries

-- the values of the indices below a bound
unfoldable pub entries_below : {T : Type 0} → (ℕ → Option T) → ℕ → List (ℕ × T)
entries_below value zero = []
entries_below value (suc n) = with_entry n (value n) (entries_below value n)

-- the map of all indices that have values
unfoldable pub map_of : {T : Type 0} → (ℕ → Option T) → map.FinMap nat_cmp T
map_of value = map.from_entries (entries_below value (2 ^ 32))
