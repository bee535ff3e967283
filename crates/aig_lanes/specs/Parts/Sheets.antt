-- The characters of literals in all lanes.
use Rattle.std.specs.Prelude.{◌≡◌, ◌+◌, ◌-◌, ◌*◌, ◌/◌, ◌%◌, ◌<◌, ◌≤◌, ◌==◌, ◌++◌, ℕ, List, [], if◌then◌else◌}
use Rattle.std.specs.Prelude.{drop, length, slice_index_or, take}
use Rattle.std.specs.Int.{bit_at}
use Rattle.std.specs.Simd.Lanes.{zip2}
use Rattle.aig_lanes.specs.declared.run.Run.{Run}

-- the character of a literal by two bits: whether it may be 1, and whether it may be 0
abbrev pub character_by : ℕ → ℕ → ℕ
character_by high low = if high == 0 then 48 else if low == 0 then 49 else 120

-- for each literal a byte with a bit for each of eight lanes, whether it may be 1 there, and one whether it may be 0
pub record BytesText : Type 0 where
  pub ones : List ℕ
  pub zeros : List ℕ

-- the characters of literals in one of eight lanes
abbrev pub bytes_text : ℕ → BytesText → List ℕ
bytes_text place o = zip2 (λ (high low : ℕ). character_by (bit_at high place) (bit_at low place)) o.ones o.zeros

-- a text with these characters from a place on, as far as it has places
abbrev pub overwritten : ℕ → (characters text : List ℕ) → List ℕ
overwritten at characters text =
    take at text ++ (take (length text - at) characters ++ drop (at + length characters) text)

-- the byte at a place of rows of 32 bytes, where one row stands after the other
abbrev pub byte_at : ℕ → List (List ℕ) → ℕ
byte_at place rows = slice_index_or (slice_index_or rows (place / 32) []) (place % 32) 0

-- the bytes of eight lanes, where there are eight for each eight of lanes
abbrev pub eight_at : ℕ → (ones zeros : List ℕ) → BytesText
eight_at octet ones zeros = record { ones = take 8 (drop (8 * octet) ones); zeros = take 8 (drop (8 * octet) zeros) }

-- the characters of literals in a lane, where rows of bytes for all lanes are these
abbrev pub text_in : ℕ → List BytesText → List ℕ
text_in lane byte_rows =
    bytes_text (lane % 8) (slice_index_or byte_rows (lane / 8) (record { ones = []; zeros = [] }))

-- there are rows of bytes for each eight of lanes
abbrev pub IsSheet : List BytesText → Type 0
IsSheet byte_rows = length byte_rows ≡ 32

-- in the lane of each run there are places for so many literals for each step, and for so many more
abbrev pub HoldsSteps : (width more : ℕ) → List BytesText → List Run → Type 0
HoldsSteps width more byte_rows runs = (l : ℕ) (d : Run) → l < 256 → l < length runs
    → length (slice_index_or runs l d).steps * width + more ≤ length (text_in l byte_rows)

-- so many characters of a text, from one on
abbrev pub part : (from count : ℕ) → List ℕ → List ℕ
part from count text = take count (drop from text)

-- all lanes have the places that they had
abbrev pub SameRoom : (before after : List BytesText) → Type 0
SameRoom before after = (l : ℕ) → length (text_in l after) ≡ length (text_in l before)
