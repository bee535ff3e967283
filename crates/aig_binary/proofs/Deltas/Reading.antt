-- Groups of seven bits: what is read at the front of bytes is exactly the number that is spelled there.
use Rattle.std.proofs.Common.{◌≡◌, ◌+◌, ◌*◌, ◌%◌, ◌<◌, ◌≤◌, ◌∷◌, ◌++◌, ◌∙◌, if◌then◌else◌, ◌^◌, ◌↔◌, rules, ℕ, zero}
use Rattle.std.proofs.Common.{suc, List, [], length, Option, None, Some, refl, sym, ap, arith, inl, inr, length-drop}
use Rattle.std.proofs.Common.{get_or, IfSome, take, drop, nat_lt, subst, add-one}
use Rattle.std.specs.List.{AllByRecursion}
use Rattle.std.proofs.lemmas.Bool.{lt-ltb, le-ltb, cases_lt}
use Rattle.std.proofs.lemmas.Grind.{common_steps}
use Rattle.std.proofs.lemmas.List.{append_cancel_right, take-append-drop, take_all, take_more, length-take-le}
use Rattle.std.proofs.Math.Nat.{pow-suc, pow-succ', mul_left_comm}
use Rattle.aig_rows.specs.Scanning.{◌>>=◌}
use Rattle.aig_rows.specs.Outcomes.{Gives}
use Rattle.aig_binary.specs.Delta.{value_of_groups, AreGroups, groups_at, IsDelta, BeginsWithDelta, delta_at}

-- groups at the front that spell the number, at most so many, and what follows them
pub record BeginsWithGroups (most : ℕ) (bytes : List ℕ) (value : ℕ) (rest : List ℕ) : Type 0 where
  pub spelling : List ℕ
  pub are : bytes ≡ spelling ++ rest
  pub groups : AreGroups spelling
  pub short : length spelling ≤ most
  pub spells : value_of_groups spelling ≡ value

pub put_first : (b : ℕ) (d : List ℕ) → 128 ≤ b → b < 256 → AreGroups d → AreGroups (b ∷ d)
put_first b [] high byte h = absurd h
put_first b (c ∷ d) high byte h = (high, byte, h)

pub one_value : (b : ℕ) → b < 128 → value_of_groups (b ∷ []) ≡ b
one_value b h = omega arith

-- what is after a group with its top bit set
abbrev pub put_low : ℕ → Option (ℕ × List ℕ) → Option (ℕ × List ℕ)
put_low b r = r >>= λ others. Some (b % 128 + 128 * others.0, others.1)

pub read_last : (most b : ℕ) (bytes : List ℕ) → b < 128 → groups_at (suc most) (b ∷ bytes) ≡ Some (b, bytes)
unfolding groups_at
read_last most b bytes h = rw (lt-ltb b 128 h) refl

pub read_more : (most b : ℕ) (bytes : List ℕ) → 128 ≤ b → b < 256
    → groups_at (suc most) (b ∷ bytes) ≡ put_low b (groups_at most bytes)
unfolding groups_at
read_more most b bytes high byte = rw (le-ltb b 128 high, lt-ltb b 256 byte) refl

pub read_no_byte : (most b : ℕ) (bytes : List ℕ) → 256 ≤ b → groups_at (suc most) (b ∷ bytes) ≡ None
unfolding groups_at
read_no_byte most b bytes h = let high : 128 ≤ b = omega arith in rw (le-ltb b 128 high, le-ltb b 256 h) refl

pub read_nothing : (most : ℕ) → groups_at most [] ≡ None
unfolding groups_at
read_nothing most = refl

pub read_no_more : (b : ℕ) (bytes : List ℕ) → groups_at zero (b ∷ bytes) ≡ None
unfolding groups_at
read_no_more b bytes = refl

record IsBehind (b : ℕ) (r : Option (ℕ × List ℕ)) (value : ℕ) (rest : List ℕ) : Type 0 where
  pub other : ℕ
  pub read : r ≡ Some (other, rest)
  pub is : b % 128 + 128 * other ≡ value

behind : (b : ℕ) (r : Option (ℕ × List ℕ)) (value : ℕ) (rest : List ℕ) → put_low b r ≡ Some (value, rest)
    → IsBehind b r value rest
behind b None value rest h = cc
behind b (Some x) value rest h = search rules

-- what is read is spelled
pub groups_are : (most : ℕ) (bytes rest : List ℕ) (value : ℕ) → groups_at most bytes ≡ Some (value, rest)
    → BeginsWithGroups most bytes value rest
groups_are most [] rest value h = let none = read_nothing most in cc
groups_are zero (b ∷ bytes) rest value h = let none = read_no_more b bytes in cc
groups_are (suc most) (b ∷ bytes) rest value h = elim (cases_lt b 128) [
  | inl low ↦
      let p : ◌≡◌ {A = ℕ × List ℕ} (b, bytes) (value, rest) = let e = read_last most b bytes low in cc in
      record {
        spelling = b ∷ [];
        are = ap (λ (q : ℕ × List ℕ). b ∷ q.1) p;
        groups = low;
        short = omega arith;
        spells = one_value b low ∙ ap (λ (q : ℕ × List ℕ). q.0) p;
      }
  | inr high ↦
      elim (cases_lt b 256) [
        | inl byte ↦
            let last = behind b (groups_at most bytes) value rest (sym (read_more most b bytes high byte) ∙ h) in
            let others = groups_are most bytes rest last.other last.read in
            record {
              spelling = b ∷ others.spelling;
              are = ap (λ (xs : List ℕ). b ∷ xs) others.are;
              groups = put_first b others.spelling high byte others.groups;
              short = let s = others.short in omega arith;
              spells = ap (λ n. b % 128 + 128 * n) others.spells ∙ last.is;
            }
        | inr large ↦ let none = read_no_byte most b bytes large in cc
      ]
]

-- what is spelled is read
pub groups_read : (most : ℕ) (d rest : List ℕ) → AreGroups d → length d ≤ most
    → groups_at most (d ++ rest) ≡ Some (value_of_groups d, rest)
groups_read most [] rest h short = absurd h
groups_read zero (b ∷ d) rest h short = absurd (omega arith)
groups_read (suc most) (b ∷ []) rest h short = read_last most b rest h ∙ ap (λ n. Some (n, rest)) (sym (one_value b h))
groups_read (suc most) (b ∷ c ∷ d) rest h short =
    read_more most b (c ∷ d ++ rest) h.0 h.1 ∙ ap (put_low b) (groups_read most (c ∷ d) rest h.2 (omega arith))

-- What is read at the front of bytes is exactly the number that is spelled there.

-- a number below 2^32 alone
abbrev pub small_only : Option (ℕ × List ℕ) → Option (ℕ × List ℕ)
small_only r = r >>= λ groups. if nat_lt groups.0 (2 ^ 32) then Some groups else None

pub small_is : (value : ℕ) (rest : List ℕ) → value < 2 ^ 32 → small_only (Some (value, rest)) ≡ Some (value, rest)
small_is value rest h = rw (lt-ltb value (2 ^ 32) h) refl

large_is_none : (value : ℕ) (rest : List ℕ) → 2 ^ 32 ≤ value → small_only (Some (value, rest)) ≡ None
large_is_none value rest h = rw (le-ltb value (2 ^ 32) h) refl

record IsSmall (r : Option (ℕ × List ℕ)) (value : ℕ) (rest : List ℕ) : Type 0 where
  pub read : r ≡ Some (value, rest)
  pub fits : value < 2 ^ 32

is_small : (r : Option (ℕ × List ℕ)) (value : ℕ) (rest : List ℕ) → small_only r ≡ Some (value, rest)
    → IsSmall r value rest
is_small None value rest h = cc
is_small (Some x) value rest h = search rules

pub delta_is : (bytes rest : List ℕ) (value : ℕ) → delta_at bytes ≡ Some (value, rest)
    → (d : List ℕ) × (bytes ≡ d ++ rest) × IsDelta d value
unfolding delta_at
delta_is bytes rest value h =
    let small = is_small (groups_at 5 bytes) value rest h in
    let g = groups_are 5 bytes rest value small.read in
    (g.spelling, g.are, record { groups = g.groups; short = g.short; spells = g.spells; fits = small.fits })

pub delta_read : (d rest : List ℕ) (value : ℕ) → IsDelta d value → delta_at (d ++ rest) ≡ Some (value, rest)
unfolding delta_at
delta_read d rest value h = search (rules, groups_read, small_is)

pub delta_none : (bytes : List ℕ) → groups_at 5 bytes ≡ None → delta_at bytes ≡ None
unfolding delta_at
delta_none bytes h = ap small_only h

delta_small : (bytes rest : List ℕ) (value : ℕ) → groups_at 5 bytes ≡ Some (value, rest) → value < 2 ^ 32
    → delta_at bytes ≡ Some (value, rest)
unfolding delta_at
delta_small bytes rest value h fits = ap small_only h ∙ small_is value rest fits

pub delta_large : (bytes rest : List ℕ) (value : ℕ) → groups_at 5 bytes ≡ Some (value, rest) → 2 ^ 32 ≤ value
    → delta_at bytes ≡ None
unfolding delta_at
delta_large bytes rest value h large = ap small_only h ∙ large_is_none value rest large

pub delta_of_one : (bytes : List ℕ) (byte : ℕ) → 0 < length bytes → byte ≡ get_or bytes 0 0 → byte < 128
    → delta_at bytes ≡ Some (byte, drop 1 bytes)
delta_of_one [] byte some e low = absurd (omega arith)
delta_of_one (b ∷ bytes) byte some e low =
    delta_small (b ∷ bytes) bytes byte (read_last 4 b bytes (omega arith) ∙ ap (λ (n : ℕ). Some (n, bytes)) (sym e))
    (omega arith)

-- the same of two bytes, of three, and of four
pub delta_of_two : (bytes : List ℕ) (a b : ℕ) → 3 ≤ length bytes → a ≡ get_or bytes 0 0 → b ≡ get_or bytes 1 0
    → 128 ≤ a → a < 256 → b < 128 → delta_at bytes ≡ Some (a % 128 + 128 * b, drop 2 bytes)
delta_of_two [] a b some ea eb high byte low = absurd (omega arith)
delta_of_two (x ∷ []) a b some ea eb high byte low = absurd (omega arith)
delta_of_two (x ∷ y ∷ bytes) a b some ea eb high byte low =
    delta_small (x ∷ y ∷ bytes) bytes (a % 128 + 128 * b)
    (rw (sym ea, sym eb) (read_more 4 a (b ∷ bytes) high byte ∙ ap (put_low a) (read_last 3 b bytes low)))
    (omega arith)

pub delta_of_three : (bytes : List ℕ) (a b c : ℕ) → 3 ≤ length bytes → a ≡ get_or bytes 0 0 → b ≡ get_or bytes 1 0
    → c ≡ get_or bytes 2 0 → 128 ≤ a → a < 256 → 128 ≤ b → b < 256 → c < 128
    → delta_at bytes ≡ Some (a % 128 + 128 * (b % 128 + 128 * c), drop 3 bytes)
delta_of_three [] a b c some ea eb ec high byte high_too byte_too low = absurd (omega arith)
delta_of_three (x ∷ []) a b c some ea eb ec high byte high_too byte_too low = absurd (omega arith)
delta_of_three (x ∷ y ∷ []) a b c some ea eb ec high byte high_too byte_too low = absurd (omega arith)
delta_of_three (x ∷ y ∷ z ∷ bytes) a b c some ea eb ec high byte high_too byte_too low =
    delta_small (x ∷ y ∷ z ∷ bytes) bytes (a % 128 + 128 * (b % 128 + 128 * c))
    (rw (sym ea, sym eb, sym ec)
    (read_more 4 a (b ∷ c ∷ bytes) high byte
    ∙ ap (put_low a) (read_more 3 b (c ∷ bytes) high_too byte_too ∙ ap (put_low b) (read_last 2 c bytes low))))
    (omega arith)

pub delta_of_four : (bytes : List ℕ) (a b c d : ℕ) → 4 ≤ length bytes → a ≡ get_or bytes 0 0 → b ≡ get_or bytes 1 0
    → c ≡ get_or bytes 2 0 → d ≡ get_or bytes 3 0 → 128 ≤ a → a < 256 → 128 ≤ b → b < 256 → 128 ≤ c → c < 256
    → d < 128
    → delta_at bytes ≡ Some (a % 128 + 128 * (b % 128 + 128 * (c % 128 + 128 * d)), drop 4 bytes)
delta_of_four [] a b c d some ea eb ec ed h1 l1 h2 l2 h3 l3 low = absurd (omega arith)
delta_of_four (x ∷ []) a b c d some ea eb ec ed h1 l1 h2 l2 h3 l3 low = absurd (omega arith)
delta_of_four (x ∷ y ∷ []) a b c d some ea eb ec ed h1 l1 h2 l2 h3 l3 low = absurd (omega arith)
delta_of_four (x ∷ y ∷ z ∷ []) a b c d some ea eb ec ed h1 l1 h2 l2 h3 l3 low = absurd (omega arith)
delta_of_four (x ∷ y ∷ z ∷ w ∷ bytes) a b c d some ea eb ec ed h1 l1 h2 l2 h3 l3 low =
    delta_small (x ∷ y ∷ z ∷ w ∷ bytes) bytes (a % 128 + 128 * (b % 128 + 128 * (c % 128 + 128 * d)))
    (rw (sym ea, sym eb, sym ec, sym ed)
    (read_more 4 a (b ∷ c ∷ d ∷ bytes) h1 l1
    ∙ ap (put_low a)
    (read_more 3 b (c ∷ d ∷ bytes) h2 l2
    ∙ ap (put_low b) (read_more 2 c (d ∷ bytes) h3 l3 ∙ ap (put_low c) (read_last 1 d bytes low)))))
    (omega arith)

pub ruleset short_deltas = (delta_of_one, delta_of_two, delta_of_three, delta_of_four)

-- What is answered of a front is exactly the number that it spells, and how long it is.
front_is : (bytes : List ℕ) (value count : ℕ) → delta_at bytes ≡ Some (value, drop count bytes)
    → IsDelta (take count bytes) value
front_is bytes value count h = grind (arith, common_steps, delta_is, append_cancel_right, take-append-drop)

front_read : (bytes : List ℕ) (value count : ℕ) → IsDelta (take count bytes) value
    → delta_at bytes ≡ Some (value, drop count bytes)
front_read bytes value count h =
    ap delta_at (sym (take-append-drop count bytes)) ∙ delta_read (take count bytes) (drop count bytes) value h

same_count : (bytes : List ℕ) (m n : ℕ) → m ≤ length bytes → n ≤ length bytes → drop m bytes ≡ drop n bytes → m ≡ n
same_count bytes m n a b e = let l = ap length e in omega (arith, length-drop m bytes, length-drop n bytes)

answers_front : (bytes : List ℕ) (r : Option (ℕ × ℕ)) → Gives (λ x. (x.0, drop x.1 bytes)) r (delta_at bytes)
    → IfSome r (λ x. x.1 ≤ length bytes)
    → (value count : ℕ) → r ≡ Some (value, count) → BeginsWithDelta bytes value count
answers_front bytes None h within value count e = cc
answers_front bytes (Some x) h within value count e = search (rules, front_is)

front_answers : (bytes : List ℕ) (r : Option (ℕ × ℕ)) → Gives (λ x. (x.0, drop x.1 bytes)) r (delta_at bytes)
    → IfSome r (λ x. x.1 ≤ length bytes)
    → (value count : ℕ) → BeginsWithDelta bytes value count → r ≡ Some (value, count)
front_answers bytes None h within value count d = let e = front_read bytes value count d.1 in cc
front_answers bytes (Some x) h within value count d =
    let p : (x.0, drop x.1 bytes) ≡ (value, drop count bytes) = let e = front_read bytes value count d.1 in cc in
    let same : x.0 ≡ value = ap (λ (q : ℕ × List ℕ). q.0) p in
    let counts : x.1 ≡ count = same_count bytes x.1 count within d.0 (ap (λ (q : ℕ × List ℕ). q.1) p) in
    ap (λ (v : ℕ). Some (v, x.1)) same ∙ ap (λ (n : ℕ). Some (value, n)) counts

pub answers : (bytes : List ℕ) (r : Option (ℕ × ℕ)) → Gives (λ x. (x.0, drop x.1 bytes)) r (delta_at bytes)
    → IfSome r (λ x. x.1 ≤ length bytes)
    → (value count : ℕ) → (r ≡ Some (value, count)) ↔ BeginsWithDelta bytes value count
answers bytes r h within value count =
    (answers_front bytes r h within value count, front_answers bytes r h within value count)

-- what is found of a number where it is below 2^32 alone
pub found : (bytes : List ℕ) (value n count : ℕ) (r : Option (ℕ × ℕ)) → n ≡ value
    → groups_at 5 bytes ≡ Some (value, drop count bytes)
    → (n < 2 ^ 32 → r ≡ Some (n, count)) → (2 ^ 32 ≤ n → r ≡ None) → count ≤ length bytes
    → Gives (λ x. (x.0, drop x.1 bytes)) r (delta_at bytes) × IfSome r (λ x. x.1 ≤ length bytes)
found bytes value n count r e h small large within = search (rules, cases_lt, delta_small, delta_large)

-- Groups that are read one after another.

-- a byte with the top bit set
abbrev pub GoesOn : ℕ → Type 0
GoesOn b = (128 ≤ b) × (b < 256)

all_go_on : (front : List ℕ) (b : ℕ) → AllByRecursion GoesOn front → GoesOn b
    → AllByRecursion GoesOn (front ++ b ∷ [])
all_go_on [] b h g = (g, tt)
all_go_on (x ∷ front) b h g = (h.0, all_go_on front b h.1 g)

last_stops : (front : List ℕ) (b : ℕ) → AllByRecursion GoesOn front → b < 128 → AreGroups (front ++ b ∷ [])
last_stops [] b h low = low
last_stops (x ∷ front) b h low = put_first x (front ++ b ∷ []) h.0.0 h.0.1 (last_stops front b h.1 low)

value_behind : (front : List ℕ) (b : ℕ)
    → value_of_groups (front ++ b ∷ []) ≡ value_of_groups front + b % 128 * 128 ^ length front
value_behind [] b = omega arith
value_behind (x ∷ front) b =
    let e = value_behind front b in search (rules, pow-succ', mul_left_comm)

no_end : (most : ℕ) (bytes : List ℕ) → AllByRecursion GoesOn bytes → groups_at most bytes ≡ None
no_end most [] h = read_nothing most
no_end zero (b ∷ bytes) h = read_no_more b bytes
no_end (suc most) (b ∷ bytes) h = read_more most b bytes h.0.0 h.0.1 ∙ ap (put_low b) (no_end most bytes h.1)

no_end_within : (front rest : List ℕ) → AllByRecursion GoesOn front
    → groups_at (length front) (front ++ rest) ≡ None
no_end_within [] [] h = read_nothing 0
no_end_within [] (b ∷ rest) h = read_no_more b rest
no_end_within (b ∷ front) rest h =
    read_more (length front) b (front ++ rest) h.0.0 h.0.1 ∙ ap (put_low b) (no_end_within front rest h.1)

-- The bytes at the front that were read so far, none of which was the last, and what they are worth.
pub record AreRead (bytes : List ℕ) (at value weight : ℕ) : Type 0 where
  pub within : at ≤ length bytes
  pub going : AllByRecursion GoesOn (take at bytes)
  pub spells : value ≡ value_of_groups (take at bytes)
  pub weighs : weight ≡ 128 ^ at

read_first : (bytes : List ℕ) → AreRead bytes 0 0 1
read_first bytes = record { within = omega arith; going = tt; spells = refl; weighs = refl }

value_with : (bytes : List ℕ) (at value weight : ℕ) → at < length bytes → AreRead bytes at value weight
    → value + get_or bytes at 0 % 128 * weight ≡ value_of_groups (take (at + 1) bytes)
value_with bytes at value weight here h = grind (arith, common_steps, take_more, value_behind, length-take-le)

pub read_on : (bytes : List ℕ) (at value weight : ℕ) → at < length bytes → GoesOn (get_or bytes at 0)
    → AreRead bytes at value weight → AreRead bytes (at + 1) (value + get_or bytes at 0 % 128 * weight) (weight * 128)
read_on bytes at value weight here goes h = record {
  within = omega arith;
  going = grind (arith, common_steps, take_more, all_go_on);
  spells = value_with bytes at value weight here h;
  weighs = ap (λ n. n * 128) h.weighs ∙ sym (ap (λ k. 128 ^ k) (add-one at) ∙ pow-suc 128 at);
}

pub read_end : (bytes : List ℕ) (at value weight : ℕ) → at < 5 → at < length bytes → get_or bytes at 0 < 128
    → AreRead bytes at value weight
    → groups_at 5 bytes ≡ Some (value + get_or bytes at 0 % 128 * weight, drop (at + 1) bytes)
read_end bytes at value weight few here low h =
    let groups =
    subst AreGroups (sym (take_more bytes at 0 here)) (last_stops (take at bytes) (get_or bytes at 0) h.going low) in
    let long : length (take (at + 1) bytes) ≡ at + 1 = length-take-le (at + 1) bytes (omega arith) in
    ap (groups_at 5) (sym (take-append-drop (at + 1) bytes))
    ∙ groups_read 5 (take (at + 1) bytes) (drop (at + 1) bytes) groups (omega arith)
    ∙ ap (λ n. Some (n, drop (at + 1) bytes)) (sym (value_with bytes at value weight here h))

pub read_without_end : (bytes : List ℕ) (at value weight : ℕ) → length bytes ≤ at → AreRead bytes at value weight
    → groups_at 5 bytes ≡ None
read_without_end bytes at value weight all h =
    no_end 5 bytes (subst (AllByRecursion GoesOn) (take_all at bytes all) h.going)

pub read_too_far : (bytes : List ℕ) (at value weight : ℕ) → at ≡ 5 → AreRead bytes at value weight
    → groups_at 5 bytes ≡ None
read_too_far bytes at value weight e h =
    ap (groups_at 5) (sym (take-append-drop at bytes))
    ∙ ap (λ n. groups_at n (take at bytes ++ drop at bytes)) (sym (length-take-le at bytes h.within ∙ e))
    ∙ no_end_within (take at bytes) (drop at bytes) h.going
