-- The inputs of runs as bits.
use Rattle.std.proofs.Common.{◌≡◌, ◌+◌, ◌-◌, ◌*◌, ◌/◌, ◌%◌, ◌^◌, ◌<◌, ◌≤◌, ◌==◌, ◌∷◌, if◌then◌else◌, ◌∙◌, ◌≢◌, ◌++◌}
use Rattle.std.proofs.Common.{rules, ℕ, zero, suc, List, [], Bool, true, false, not, cond, eqb, length, map, get_or}
use Rattle.std.proofs.Common.{take, drop, below_more, subst, replicate, refl, sym, ap, ap₂, arith, w8, inl, inr, set}
use Rattle.std.proofs.Common.{pow-suc, pow-add, get_or-drop, get_or-take, length-drop, length-take-le}
use Rattle.std.proofs.Common.{get_or-append-add, get_or-set_other, get_or-set_same}
use Rattle.std.specs.Int.{bit_at}
use Rattle.std.specs.Int.Bits.{and_mask, bit_and}
use Rattle.std.specs.Simd.Lanes.{chunk, mask_l, top, zip2, digits_l, number_l, pick_l, Each1}
use Rattle.std.proofs.lemmas.Bool.{cases_lt, cases_eq}
use Rattle.std.proofs.lemmas.Bool.Decides.{eqb_tells}
use Rattle.std.proofs.lemmas.List.{get_or-map, get_or-replicate, get_or_append_left}
use Rattle.std.proofs.lemmas.Simd.{bit_mask_l, bitmask_splat, get_or-chunk, get_or-zip2, length-chunk, length-zip2}
use Rattle.std.proofs.lemmas.Simd.{get_or_narrower, pick_l_left}
use Rattle.std.proofs.lemmas.List.FromFn.{get_or-map-range_with_len}
use Rattle.aig_circuit.specs.declared.value.Val.{Val}
use Rattle.aig_circuit.specs.declared.value.Val.TheVariants.{Zero, One, X}
use Rattle.aig_circuit.specs.Values.{value_not}
use Rattle.aig_places.specs.Lanes.{bit_in, may_be_one}
use Rattle.aig_step.specs.TraceText.{character_of}
use Rattle.aig_lanes.proofs.Side.Sheets.{byte_bit, no_bit, shifted_byte, some_bit}
use Rattle.aig_lanes.specs.Parts.InputBits.{byte_in}
use borrow.Rule.Slice.PartMut.{put_mid}

abbrev differs : ℕ → ℕ → Bool
differs a b = not (eqb a b)

flag : (b : Bool) → cond {A = ℕ} (not b) 1 0 ≡ (if b then 0 else 1)
flag true = refl
flag false = refl

-- the bits of a comparison with one character, of the characters from this place on
pub differing_bits : (characters : List ℕ) (first character k : ℕ) → first + 64 ≤ length characters → k < 64
    → bit_at (mask_l (map (top 7) (zip2 (λ a b. cond (differs a b) 255 0) (chunk 0 64 (drop first characters))
    (replicate 64 character))) % 2 ^ 64) k
    ≡ (if get_or characters (first + k) 0 == character then 0 else 1)
differing_bits characters first character k inside below =
    let rest = drop first characters in
    let lanes = chunk 0 64 rest in
    let long : length lanes ≡ 64 = length-chunk 0 64 rest (omega (arith, length-drop first characters, inside)) in
    let at = get_or-chunk 0 64 rest k 0 below
    ∙ ap (λ n. get_or rest n 0) (omega arith)
    ∙ get_or-drop first characters k 0 in
    ap (λ n. bit_at n k) (bitmask_splat w8 differs lanes 64 character long (omega arith))
    ∙ bit_mask_l (map (λ x. differs x character) lanes) k
    ∙ ap (λ b. cond {A = ℕ} b 1 0)
    (get_or-map (λ x. differs x character) lanes k 0 false (omega (arith, long, below)))
    ∙ flag (eqb (get_or lanes k 0) character)
    ∙ ap (λ n. if n == character then 0 else 1) at

pow_of_byte : (k : ℕ) → 256 ^ k ≡ 2 ^ (8 * k)
pow_of_byte zero = refl
pow_of_byte (suc k) =
    pow-suc 256 k ∙ ap (λ (n : ℕ). n * 256) (pow_of_byte k) ∙ sym (pow-add 2 (8 * k) 8)
    ∙ ap (λ (n : ℕ). 2 ^ n) (omega arith)

-- a bit of a word's byte
pub bit_of_byte : (word k place : ℕ) → place < 8 → bit_at (word / 256 ^ k % 256) place ≡ bit_at word (8 * k + place)
bit_of_byte word k place below =
    ap (λ (n : ℕ). bit_at (word / n % 256) place) (pow_of_byte k)
    ∙ ap (λ (n : ℕ). bit_at n place) (sym (and_mask (word / 2 ^ (8 * k)) 8))
    ∙ byte_bit word (8 * k) place below

-- the bits of four words, each of which tells of 64 numbers
pub words_in : (f : ℕ → ℕ) (a b c d : ℕ) → ((k : ℕ) → k < 64 → bit_at a k ≡ f (0 + k))
    → ((k : ℕ) → k < 64 → bit_at b k ≡ f (64 + k)) → ((k : ℕ) → k < 64 → bit_at c k ≡ f (128 + k))
    → ((k : ℕ) → k < 64 → bit_at d k ≡ f (192 + k)) → (l : ℕ) → l < 256
    → bit_in l (a ∷ b ∷ c ∷ d ∷ []) ≡ f l
words_in f a b c d in_a in_b in_c in_d l below = search (rules, cases_lt)

-- where the character of a value is another one, so is the value
pub may_be_one_where : (x : Val) → (if character_of x == 48 then 0 else 1) ≡ may_be_one x
may_be_one_where Zero = refl
may_be_one_where One = refl
may_be_one_where X = refl

pub may_be_zero_where : (x : Val) → (if character_of x == 49 then 0 else 1) ≡ may_be_one (value_not x)
may_be_zero_where Zero = refl
may_be_zero_where One = refl
may_be_zero_where X = refl

-- a bit is set where what is kept of its word alone is not 0
one_bit : (n place : ℕ) → (if eqb (bit_and n (2 ^ place)) 0 then 0 else 1) ≡ bit_at n place
one_bit n place = elim (eqb_tells (bit_and n (2 ^ place)) 0) [
  | inl none ↦ ap (λ (b : Bool). if b then 0 else 1) none.0 ∙ sym (no_bit n (2 ^ place) place refl none.1)
  | inr some ↦ ap (λ (b : Bool). if b then 0 else 1) some.0 ∙ sym (some_bit n (2 ^ place) place refl some.1)
]

-- the bits of bytes that have this one
pub bits_with : (bytes : List ℕ) (first place k : ℕ) → length bytes ≡ 264 → first + 64 ≤ 264 → place < 8 → k < 64
    → bit_at (mask_l (map (top 7) (zip2 (λ a b. cond (differs a b) 255 0)
    (zip2 bit_and (chunk 0 64 (take (264 - first) (drop first bytes))) (replicate 64 (1 * 2 ^ place % 2 ^ 8)))
    (replicate 64 0))) % 2 ^ 64) k
    ≡ bit_at (get_or bytes (first + k) 0) place
bits_with bytes first place k size inside in_byte below =
    let rest = take (264 - first) (drop first bytes) in
    let part = chunk 0 64 rest in
    let mask = 1 * 2 ^ place % 2 ^ 8 in
    let lanes = zip2 bit_and part (replicate 64 mask) in
    let long_rest = length-take-le (264 - first) (drop first bytes) (omega (arith, length-drop first bytes, size)) in
    let long_part : length part ≡ 64 = length-chunk 0 64 rest (omega (arith, long_rest, inside)) in
    let long : length lanes ≡ 64 = length-zip2 bit_and part (replicate 64 mask) long_part ∙ long_part in
    let at = get_or-chunk 0 64 rest k 0 below
    ∙ ap (λ n. get_or rest n 0) (omega arith)
    ∙ get_or-take (264 - first) (drop first bytes) k 0 (omega (arith, inside, below))
    ∙ get_or-drop first bytes k 0 in
    let byte = get_or-zip2 bit_and part (replicate 64 mask) k 0 0 0 (omega (arith, long_part, below)) below
    ∙ ap₂ bit_and at (get_or-replicate 64 k mask 0 below ∙ shifted_byte place in_byte) in
    ap (λ n. bit_at n k) (bitmask_splat w8 differs lanes 64 0 long (omega arith))
    ∙ bit_mask_l (map (λ x. differs x 0) lanes) k
    ∙ ap (λ b. cond {A = ℕ} b 1 0)
    (get_or-map (λ x. differs x 0) lanes k 0 false (omega (arith, long, below)))
    ∙ flag (eqb (get_or lanes k 0) 0)
    ∙ ap (λ n. if eqb n 0 then 0 else 1) byte
    ∙ one_bit (get_or bytes (first + k) 0) place

-- the places of a square, column by column
abbrev by_columns : List ℕ
by_columns =
    0 ∷ 8 ∷ 16 ∷ 24 ∷ 32 ∷ 40 ∷ 48 ∷ 56 ∷ 1 ∷ 9 ∷ 17 ∷ 25 ∷ 33 ∷ 41 ∷ 49 ∷ 57 ∷ 2 ∷ 10 ∷ 18 ∷ 26 ∷ 34 ∷ 42 ∷ 50
    ∷ 58 ∷ 3 ∷ 11 ∷ 19 ∷ 27 ∷ 35 ∷ 43 ∷ 51 ∷ 59 ∷ 4 ∷ 12 ∷ 20 ∷ 28 ∷ 36 ∷ 44 ∷ 52 ∷ 60 ∷ 5 ∷ 13 ∷ 21 ∷ 29 ∷ 37
    ∷ 45 ∷ 53 ∷ 61 ∷ 6 ∷ 14 ∷ 22 ∷ 30 ∷ 38 ∷ 46 ∷ 54 ∷ 62 ∷ 7 ∷ 15 ∷ 23 ∷ 31 ∷ 39 ∷ 47 ∷ 55 ∷ 63 ∷ []

-- the bytes of eight words, read by columns
pub column_at : (rows : List ℕ) (r k : ℕ) → length rows ≡ 8 → Each1 (λ (x : ℕ). x < 2 ^ 64) rows → r < 8 → k < 8
    → (bytes : List ℕ) → bytes ≡ digits_l 256 64 (number_l (2 ^ 64) rows)
    → get_or (pick_l 0 (bytes ++ bytes) by_columns) (8 * k + r) 0 ≡ get_or rows r 0 / 256 ^ k % 256
column_at rows r k long fit in_row in_column bytes are =
    let place : 8 * k + r < 64 = omega arith in
    let all : length bytes ≡ 64 = ap length are in
    ap (λ (xs : List ℕ). get_or xs (8 * k + r) 0) (pick_l_left 0 bytes bytes 64 by_columns all tt)
    ∙ get_or-map (λ (n : ℕ). get_or bytes n 0) by_columns (8 * k + r) 0 0 place
    ∙ ap (λ (n : ℕ). get_or bytes n 0)
    (get_or-map-range_with_len (λ (n : ℕ). 8 * (n % 8) + n / 8) 0 64 (8 * k + r) (8 * k + r) 0 place (omega arith)
    ∙ omega arith)
    ∙ ap (λ (xs : List ℕ). get_or xs (8 * r + k) 0) are
    ∙ get_or_narrower (2 ^ 64) 8 256 64 rows r k refl fit in_column (omega arith)

-- before a part that is overwritten
pub before_part : (a n : ℕ) (xs ys : List ℕ) (i : ℕ) → i < a → a ≤ length xs
    → get_or (put_mid a n xs ys) i 0 ≡ get_or xs i 0
before_part a n xs ys i before inside =
    get_or_append_left (take a xs) (ys ++ drop n (drop a xs)) 0 i (omega (arith, length-take-le a xs inside))
    ∙ get_or-take a xs i 0 before

-- and in it
pub in_part : (a n : ℕ) (xs ys : List ℕ) (i : ℕ) → i < length ys → a ≤ length xs
    → get_or (put_mid a n xs ys) (a + i) 0 ≡ get_or ys i 0
in_part a n xs ys i below inside =
    ap (λ (k : ℕ). get_or (put_mid a n xs ys) (k + i) 0) (sym (length-take-le a xs inside))
    ∙ get_or-append-add (take a xs) (ys ++ drop n (drop a xs)) i 0
    ∙ get_or_append_left ys (drop n (drop a xs)) 0 i below

-- one more is put, of which holds what does of those before it
pub put_more : {X : Type 0} (P : ℕ → X → Type 0) (xs : List X) (at : ℕ) (x d : X) → at < length xs
    → ((i : ℕ) → i < at → P i (get_or xs i d)) → P at x → (i : ℕ) → i < at + 1 → P i (get_or (set xs at x) i d)
put_more P xs at x d inside before here =
    below_more (λ i. P i (get_or (set xs at x) i d)) at
    (λ i less. subst (P i) (sym (get_or-set_other xs at i x d (omega (arith, less)))) (before i less))
    (subst (P at) (sym (get_or-set_same xs at x d inside)) here)

-- one is put that is as large as what stood there
pub same_sizes : {X : Type 0} (size : X → ℕ) (xs : List X) (at : ℕ) (x d : X) → at < length xs
    → size x ≡ size (get_or xs at d) → (k : ℕ) → size (get_or (set xs at x) k d) ≡ size (get_or xs k d)
same_sizes size xs at x d inside same k = elim (cases_eq k at) [
  | inl is ↦ rw is (ap size (get_or-set_same xs at x d inside) ∙ same)
  | inr other ↦ ap size (get_or-set_other xs at k x d other)
]

-- eight inputs are put: the others keep their bytes
pub others_stay : (k l at : ℕ) (eights : List (List ℕ)) (eight : List ℕ) → k ≢ at
    → byte_in k l (set eights at eight) ≡ byte_in k l eights
others_stay k l at eights eight other = ap (λ (s : List ℕ). get_or s l 0) (get_or-set_other eights at k eight [] other)

-- they have these
pub eight_is_put : (l at : ℕ) (eights : List (List ℕ)) (eight : List ℕ) → at < length eights
    → byte_in at l (set eights at eight) ≡ get_or eight l 0
eight_is_put l at eights eight below = ap (λ (s : List ℕ). get_or s l 0) (get_or-set_same eights at eight [] below)

-- and a lane in which they are as before is as before
pub lane_stays : (k l at : ℕ) (eights : List (List ℕ)) (eight : List ℕ) → at < length eights
    → get_or eight l 0 ≡ get_or (get_or eights at []) l 0
    → byte_in k l (set eights at eight) ≡ byte_in k l eights
lane_stays k l at eights eight below same = same_sizes (λ (s : List ℕ). get_or s l 0) eights at eight [] below same k

-- eight inputs are put in eight lanes
pub eight_are_put : (at lane l n : ℕ) (eights : List (List ℕ)) (bytes : List ℕ) → at < length eights
    → lane ≤ length (get_or eights at []) → length bytes ≡ 8 → lane ≤ l → l < lane + 8
    → byte_in at l (set eights at (put_mid lane n (get_or eights at []) bytes)) ≡ get_or bytes (l - lane) 0
eight_are_put at lane l n eights bytes below inside eight from to =
    let after = put_mid lane n (get_or eights at []) bytes in
    eight_is_put l at eights after below
    ∙ ap (λ (k : ℕ). get_or after k 0) (omega (arith, from))
    ∙ in_part lane n (get_or eights at []) bytes (l - lane) (omega (arith, from, to, eight)) inside
