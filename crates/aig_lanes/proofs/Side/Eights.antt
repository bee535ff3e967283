-- Eight literals put at once.
use Rattle.std.proofs.Common.{◌≡◌, ◌+◌, ◌-◌, ◌*◌, ◌/◌, ◌%◌, ◌^◌, ◌<◌, ◌≤◌, ◌==◌, ◌++◌, ◌∷◌, if◌then◌else◌, ◌∙◌, rules}
use Rattle.std.proofs.Common.{ℕ, List, [], length, get_or, set, take, drop, refl, subst, sym, ap, ap₂, arith, inl, inr}
use Rattle.std.specs.Int.{bit_at}
use Rattle.std.specs.Simd.Lanes.{digits_l, number_l, pick_l, zip2, Each1}
use Rattle.std.proofs.lemmas.Bool.{cases_lt}
use Rattle.std.proofs.lemmas.Grind.{same_number_lists}
use Rattle.std.proofs.lemmas.List.{append-nil, drop-drop, drop_all, get_or-append-add, get_or-drop, get_or-map}
use Rattle.std.proofs.lemmas.List.{get_or-set_other, get_or-set_same, get_or-take, get_or_append_left, length-append}
use Rattle.std.proofs.lemmas.List.{length-drop, length-map, length-set, length-take, length-take-le, take-append-le}
use Rattle.std.proofs.lemmas.List.{take-take, take_all, with_items_is}
use Rattle.std.proofs.lemmas.List.FromFn.{get_or-map-range_with_len}
use Rattle.std.proofs.lemmas.Simd.{get_or-zip2, get_or_narrower, length-zip2}
use Rattle.aig_circuit.specs.declared.value.Val.{Val}
use Rattle.aig_circuit.specs.declared.value.Val.TheVariants.{Zero}
use Rattle.aig_places.specs.Lanes.{IsPair, bit_in}
use Rattle.aig_lanes.specs.Parts.Sheets.{BytesText, byte_at, bytes_text, character_by, eight_at, overwritten}
use Rattle.aig_step.specs.TraceText.{character_of, values_text}
use Rattle.aig_lanes.proofs.Side.InputBits.{bit_of_byte}
use Rattle.aig_lanes.proofs.Side.Sheets.{rows_with, text_long, zip_drop, zip_take}
use borrow.Rule.Slice.PartMut.{put_mid}

-- two lists, each with another after it
zip_append : (f : ℕ → ℕ → ℕ) (xs ys highs lows : List ℕ) → length xs ≡ length ys
    → zip2 f (xs ++ highs) (ys ++ lows) ≡ zip2 f xs ys ++ zip2 f highs lows
zip_append f [] [] highs lows same = refl
zip_append f [] (y ∷ ys) highs lows same = absurd (omega (arith, same))
zip_append f (x ∷ xs) [] highs lows same = absurd (omega (arith, same))
zip_append f (x ∷ xs) (y ∷ ys) highs lows same =
    ap (λ (zs : List ℕ). f x y ∷ zs) (zip_append f xs ys highs lows (omega (arith, same)))

-- a text has no places there
pub overwritten_past : (at : ℕ) (cs text : List ℕ) → length text ≤ at → overwritten at cs text ≡ text
overwritten_past at cs text past = search (rules, take_all, drop_all, append-nil)

pub overwritten_size : (at : ℕ) (cs text : List ℕ) → length (overwritten at cs text) ≡ length text
overwritten_size at cs text = search (rules, length-append, length-take, length-drop)

-- what stands before is as it was
pub overwritten_front : (at m : ℕ) (cs text : List ℕ) → m ≤ at → take m (overwritten at cs text) ≡ take m text
overwritten_front at m cs text within =
    search (rules, cases_lt, overwritten_past, take-append-le, length-take-le, take-take)

-- and there the characters stand
pub overwritten_at : (at k : ℕ) (cs text : List ℕ) → k < length cs → at + k < length text
    → get_or (overwritten at cs text) (at + k) 0 ≡ get_or cs k 0
overwritten_at at k cs text below inside =
    search (rules, length-take-le, get_or-append-add, get_or_append_left, length-take, get_or-take)

-- as many of the characters as there are places are as good as all
pub overwritten_part : (at n : ℕ) (cs text : List ℕ) → n ≡ length text - at → at ≤ length text
    → length text ≤ at + length cs → overwritten at (take n cs) text ≡ overwritten at cs text
overwritten_part at n cs text is inside few = search (rules, length-take-le, take-take, drop_all)

-- where there are places for all characters
pub overwritten_whole : (at n : ℕ) (cs text : List ℕ) → n ≡ length cs → at + n ≤ length text
    → put_mid at n text cs ≡ overwritten at cs text
overwritten_whole at n cs text is room =
    ap₂ (λ (xs ys : List ℕ). take at text ++ (xs ++ ys))
    (sym (take_all (length text - at) cs (omega (arith, is, room))))
    (drop-drop n at text ∙ ap (λ (k : ℕ). drop (at + k) text) is)

-- bytes are put over both lists
pub texts_overwritten : (place at : ℕ) (ones zeros highs lows : List ℕ) → length ones ≡ length zeros
    → length highs ≡ length lows → bytes_text place (rows_with (overwritten at highs ones) (overwritten at lows zeros))
    ≡ overwritten at (bytes_text place (rows_with highs lows)) (bytes_text place (rows_with ones zeros))
texts_overwritten place at ones zeros highs lows same same_too =
    search (rules, length-take, rows_with, zip_append, zip_take, zip_drop, length-zip2)

-- there is a character for each literal of what an octet holds
pub text_size : (place : ℕ) (o now : BytesText) → o ≡ now → length o.ones ≡ length o.zeros
    → length (bytes_text place now) ≡ length o.ones
text_size place o now is same = ap (λ (x : BytesText). length (bytes_text place x)) (sym is) ∙ text_long place o same

-- the characters of one octet, where there are eight bytes for each
module _ (octet place : ℕ) (ones zeros : List ℕ) (all : length ones ≡ 256) (all_too : length zeros ≡ 256)
    (below : octet < 32) where
  eight : (bytes : List ℕ) → length bytes ≡ 256 → length (take 8 (drop (8 * octet) bytes)) ≡ 8
  eight bytes long =
      length-take-le 8 (drop (8 * octet) bytes) (omega (arith, length-drop (8 * octet) bytes, long, below))

  pub eight_long : length (bytes_text place (eight_at octet ones zeros)) ≡ 8
  eight_long =
      text_long place (eight_at octet ones zeros) (eight ones all ∙ sym (eight zeros all_too)) ∙ eight ones all

  pub eight_character : (k : ℕ) → k < 8 → get_or (bytes_text place (eight_at octet ones zeros)) k 0
      ≡ character_by (bit_at (get_or ones (8 * octet + k) 0) place) (bit_at (get_or zeros (8 * octet + k) 0) place)
  eight_character k in_eight =
      let by = λ (high low : ℕ). character_by (bit_at high place) (bit_at low place) in
      get_or-zip2 by (take 8 (drop (8 * octet) ones)) (take 8 (drop (8 * octet) zeros)) k 0 0 0
      (omega (arith, in_eight, eight ones all)) (omega (arith, in_eight, eight zeros all_too))
      ∙ ap₂ by (get_or-take 8 (drop (8 * octet) ones) k 0 in_eight ∙ get_or-drop (8 * octet) ones k 0)
      (get_or-take 8 (drop (8 * octet) zeros) k 0 in_eight ∙ get_or-drop (8 * octet) zeros k 0)

-- a byte of a plane has the bits of eight lanes
pub plane_byte : (plane : List ℕ) (octet j : ℕ) → Each1 (λ (x : ℕ). x < 2 ^ 64) plane → octet < 32 → j < 8
    → (bytes : List ℕ) → bytes ≡ digits_l 256 32 (number_l (2 ^ 64) plane)
    → bit_at (get_or bytes octet 0) j ≡ bit_in (8 * octet + j) plane
plane_byte plane octet j fit in_plane in_byte bytes are =
    let word = octet / 8 in
    let i = octet % 8 in
    let place : octet ≡ 8 * word + i = omega arith in
    let byte = ap (λ (xs : List ℕ). get_or xs octet 0) are
    ∙ ap (λ (n : ℕ). get_or (digits_l 256 32 (number_l (2 ^ 64) plane)) n 0) place
    ∙ get_or_narrower (2 ^ 64) 8 256 32 plane word i refl fit (omega arith) (omega (arith, in_plane)) in
    ap (λ (n : ℕ). bit_at n j) byte
    ∙ bit_of_byte (get_or plane word 0) i j in_byte
    ∙ ap₂ (λ (v b : ℕ). bit_at (get_or plane v 0) b) (omega (arith, in_byte)) (omega (arith, in_byte))

abbrev first_places : List ℕ
first_places =
    0 ∷ 32 ∷ 1 ∷ 33 ∷ 2 ∷ 34 ∷ 3 ∷ 35 ∷ 4 ∷ 36 ∷ 5 ∷ 37 ∷ 6 ∷ 38 ∷ 7 ∷ 39 ∷ 8 ∷ 40 ∷ 9 ∷ 41 ∷ 10 ∷ 42 ∷ 11 ∷ 43 ∷ 12
    ∷ 44 ∷ 13 ∷ 45 ∷ 14 ∷ 46 ∷ 15 ∷ 47 ∷ []

abbrev second_places : List ℕ
second_places =
    16 ∷ 48 ∷ 17 ∷ 49 ∷ 18 ∷ 50 ∷ 19 ∷ 51 ∷ 20 ∷ 52 ∷ 21 ∷ 53 ∷ 22 ∷ 54 ∷ 23 ∷ 55 ∷ 24 ∷ 56 ∷ 25 ∷ 57 ∷ 26 ∷ 58 ∷ 27
    ∷ 59 ∷ 28 ∷ 60 ∷ 29 ∷ 61 ∷ 30 ∷ 62 ∷ 31 ∷ 63 ∷ []

-- bytes that are picked from one list and from another in turn, from a place of both on
taken_in_turn : (start m : ℕ) (a b places : List ℕ) → length a ≡ 32 → m < 32 → start + m / 2 < 32
    → length places ≡ 32 → get_or places m 0 ≡ start + m / 2 + 32 * (m % 2)
    → (out : List ℕ) → out ≡ pick_l 0 (a ++ b) places
    → get_or out m 0 ≡ get_or (if m % 2 == 0 then a else b) (start + m / 2) 0
taken_in_turn start m a b places long below inside all at out picked =
    search (rules, get_or-map, cases_lt, get_or-append-add, get_or_append_left)

pub first_half : (m : ℕ) (a b : List ℕ) → length a ≡ 32 → m < 32
    → (out : List ℕ) → out ≡ pick_l 0 (a ++ b) first_places
    → get_or out m 0 ≡ get_or (if m % 2 == 0 then a else b) (m / 2) 0
first_half m a b long below out picked =
    taken_in_turn 0 m a b first_places long below (omega (arith, below)) refl
    (get_or-map-range_with_len (λ (n : ℕ). 0 + n / 2 + 32 * (n % 2)) 0 32 m m 0 below (omega arith)) out picked
    ∙ ap (λ (n : ℕ). get_or (if m % 2 == 0 then a else b) n 0) (omega arith)

pub second_half : (m : ℕ) (a b : List ℕ) → length a ≡ 32 → m < 32
    → (out : List ℕ) → out ≡ pick_l 0 (a ++ b) second_places
    → get_or out m 0 ≡ get_or (if m % 2 == 0 then a else b) (16 + m / 2) 0
second_half m a b long below =
    taken_in_turn 16 m a b second_places long below (omega (arith, below)) refl
    (get_or-map-range_with_len (λ (n : ℕ). 16 + n / 2 + 32 * (n % 2)) 0 32 m m 0 below (omega arith))

-- one of two rows by a number that is 0 or 1
pub one_of_two : (u k i : ℕ) (rows : List (List ℕ))
    → get_or (if u % 2 == 0 then get_or rows k [] else get_or rows (k + 4) []) i 0
    ≡ get_or (get_or rows (k + 4 * (u % 2)) []) i 0
one_of_two u k i rows = search (rules, cases_lt)

-- two more rows are woven
pub woven_more : (k : ℕ) (rows between : List (List ℕ)) (low high : List ℕ) → length between ≡ 8 → k < 4
    → ((m : ℕ) → m < 64 * k → byte_at m between ≡ byte_at (m / 2 + 128 * (m % 2)) rows)
    → ((u : ℕ) → u < 32 → get_or low u 0
    ≡ get_or (if u % 2 == 0 then get_or rows k [] else get_or rows (k + 4) []) (u / 2) 0)
    → ((u : ℕ) → u < 32 → get_or high u 0
    ≡ get_or (if u % 2 == 0 then get_or rows k [] else get_or rows (k + 4) []) (16 + u / 2) 0)
    → (m : ℕ) → m < 64 * (k + 1)
    → byte_at m (set (set between (2 * k) low) (2 * k + 1) high) ≡ byte_at (m / 2 + 128 * (m % 2)) rows
woven_more k rows between low high long below before in_low in_high m inside =
    let one = set between (2 * k) low in
    let two = set one (2 * k + 1) high in
    let parity : m % 32 % 2 ≡ m % 2 = omega arith in
    elim (cases_lt m (64 * k)) [
      | inl earlier ↦
          ap (λ (row : List ℕ). get_or row (m % 32) 0)
          (get_or-set_other one (2 * k + 1) (m / 32) high [] (λ e. omega (arith, earlier, e))
          ∙ get_or-set_other between (2 * k) (m / 32) low [] (λ e. omega (arith, earlier, e)))
          ∙ before m earlier
      | inr later ↦ elim (cases_lt m (64 * k + 32)) [
        | inl first ↦
            let row : m / 32 ≡ 2 * k = omega (arith, later, first) in
            ap (λ (n : ℕ). get_or (get_or two n []) (m % 32) 0) row
            ∙ ap (λ (xs : List ℕ). get_or xs (m % 32) 0)
            (get_or-set_other one (2 * k + 1) (2 * k) high [] (λ e. omega (arith, e))
            ∙ get_or-set_same between (2 * k) low [] (omega (arith, below, long)))
            ∙ in_low (m % 32) (omega arith)
            ∙ one_of_two (m % 32) k (m % 32 / 2) rows
            ∙ ap₂ (λ (n i : ℕ). get_or (get_or rows n []) i 0) (omega (arith, row, parity, later, first))
            (omega (arith, row, parity, later, first))
        | inr second ↦
            let row : m / 32 ≡ 2 * k + 1 = omega (arith, second, inside) in
            ap (λ (n : ℕ). get_or (get_or two n []) (m % 32) 0) row
            ∙ ap (λ (xs : List ℕ). get_or xs (m % 32) 0)
            (get_or-set_same one (2 * k + 1) high [] (omega (arith, below, long, length-set between (2 * k) low)))
            ∙ in_high (m % 32) (omega arith)
            ∙ one_of_two (m % 32) k (16 + m % 32 / 2) rows
            ∙ ap₂ (λ (n i : ℕ). get_or (get_or rows n []) i 0) (omega (arith, row, parity, second, inside))
            (omega (arith, row, parity, second, inside))
      ]
    ]

-- where a byte stood before it was woven
abbrev pub woven_from : ℕ → ℕ
woven_from m = m / 2 + 128 * (m % 2)

pub woven_within : (m : ℕ) → m < 256 → woven_from m < 256
woven_within m below = omega (arith, below)

-- three weavings bring the number of a row after the number of a byte in it
pub woven_thrice : (octet r : ℕ) → octet < 32 → r < 8
    → woven_from (woven_from (woven_from (8 * octet + r))) ≡ 32 * r + octet
woven_thrice octet r in_row in_rows = search rules

-- the byte of a row
pub byte_in_row : (octet r : ℕ) (rows : List (List ℕ)) → octet < 32
    → byte_at (32 * r + octet) rows ≡ get_or (get_or rows r []) octet 0
byte_in_row octet r rows below =
    ap₂ (λ (n i : ℕ). get_or (get_or rows n []) i 0) (omega (arith, below)) (omega (arith, below))

-- what two texts begin with is the same
pub front_same : (n i : ℕ) (xs ys : List ℕ) → i < n → take n xs ≡ take n ys → get_or xs i 0 ≡ get_or ys i 0
front_same n i xs ys below same =
    sym (get_or-take n xs i 0 below) ∙ ap (λ (zs : List ℕ). get_or zs i 0) same ∙ get_or-take n ys i 0 below

-- the characters of values stand where a step begins
pub step_shown : (start width : ℕ) (text : List ℕ) (shown : List Val) → length shown ≡ width
    → start + width ≤ length text
    → ((j : ℕ) → j < width → get_or text (start + j) 0 ≡ character_of (get_or shown j Zero))
    → take width (drop start text) ≡ values_text shown
step_shown start width text shown long room each =
    search (rules, length-take-le, length-drop, same_number_lists, length-map, get_or-take, get_or-drop, get_or-map)

-- two more planes are put: those before are what they were, and there these stand
module _ (eight : List (List ℕ)) (at : ℕ) (one other : List ℕ) (long : length eight ≡ 16) (below : at < 8) where
  abbrev put_two : List (List ℕ)
  put_two = set (set eight (2 * at) one) (2 * at + 1) other

  pub two_long : length put_two ≡ 16
  two_long = length-set (set eight (2 * at) one) (2 * at + 1) other ∙ length-set eight (2 * at) one ∙ long

  stays : (n : ℕ) → n < 2 * at → get_or put_two n [] ≡ get_or eight n []
  stays n less =
      get_or-set_other (set eight (2 * at) one) (2 * at + 1) n other [] (λ e. omega (arith, less, e))
      ∙ get_or-set_other eight (2 * at) n one [] (λ e. omega (arith, less, e))

  pub pair_stays : (t k : ℕ) (x : Val) → k < at → IsPair t (get_or eight (2 * k) []) (get_or eight (2 * k + 1) []) x
      → IsPair t (get_or put_two (2 * k) []) (get_or put_two (2 * k + 1) []) x
  pair_stays t k x less pair =
      subst (λ (p : List ℕ). IsPair t p (get_or put_two (2 * k + 1) []) x)
      (sym (stays (2 * k) (omega (arith, less))))
      (subst (λ (p : List ℕ). IsPair t (get_or eight (2 * k) []) p x)
      (sym (stays (2 * k + 1) (omega (arith, less)))) pair)

  pub pair_stands : (t k : ℕ) (x : Val) → k ≡ at → IsPair t one other x
      → IsPair t (get_or put_two (2 * k) []) (get_or put_two (2 * k + 1) []) x
  pair_stands t k x is pair = search (rules, get_or-set_other, eight, get_or-set_same, length-set)

-- the facts on rows of bytes that are put over others
pub ruleset put_rows = (text_size, rows_with, with_items_is, overwritten_size, texts_overwritten)
