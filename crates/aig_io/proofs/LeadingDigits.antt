-- The zeros before a number in its eight digits.
use Rattle.std.proofs.Common.{◌≡◌, ◌+◌, ◌-◌, ◌*◌, ◌/◌, ◌%◌, ◌^◌, ◌<◌, ◌≤◌, ◌∷◌, ◌++◌, ◌∙◌, rules, ℕ, zero, suc, List}
use Rattle.std.proofs.Common.{[], length, map, take, get_or, arith, refl, sym, ap, append_assoc, length-append}
use Rattle.std.proofs.Common.{eq-zero-or-pos, inl, inr, shr-shr, pow-suc, replicate, decimal, w64, IsAscii}
use Rattle.std.proofs.lemmas.Nat.{mod-pow-add, le_bytes_8}
use Rattle.std.proofs.Math.Nat.{div-div-eq-div-mul}
use Rattle.std.proofs.lemmas.Bool.{cases_lt}
use Rattle.std.proofs.lemmas.List.{map-append, length-replicate}
use Rattle.std.proofs.Math.Seq.{take-append-add, take-append_seam}
use Rattle.std.specs.Int.Count.{count_trailing_zeros}
use Rattle.std.specs.Simd.Lanes.{number_l}
use Rattle.std.proofs.lemmas.Fmt.{decimal_digit, decimal_step, IsAscii-decimal}
use Rattle.std.proofs.lemmas.Grind.{replicate_next}
use Rattle.std.specs.Int.{from_le_bytes, to_le_bytes}
use Rattle.aig_io.specs.Digits.{last_digits}

-- ---- zeros of a word

double : (k x : ℕ) → count_trailing_zeros (suc k) (2 * x) ≡ suc (count_trailing_zeros k x)
unfolding count_trailing_zeros
double k x = search rules

-- a byte that is 0 has eight zeros
zero_byte : (k x : ℕ) → count_trailing_zeros (8 + k) (256 * x) ≡ 8 + count_trailing_zeros k x
zero_byte k x =
    let doubled : 256 * x ≡ 2 * (2 * (2 * (2 * (2 * (2 * (2 * (2 * x))))))) = omega arith in
    let long : 8 + k ≡ suc (suc (suc (suc (suc (suc (suc (suc k))))))) = omega arith in
    rw (doubled, long, double, double, double, double, double, double, double, double) (omega arith)

odd_step : (k x : ℕ) → x % 2 ≡ 1 → count_trailing_zeros (suc k) x ≡ 0
unfolding count_trailing_zeros
odd_step k x odd = rw odd refl

even_step : (k x : ℕ) → x % 2 ≡ 0 → count_trailing_zeros (suc k) x ≡ suc (count_trailing_zeros k (x / 2))
unfolding count_trailing_zeros
even_step k x even = rw even refl

-- a word with a 1 among its lowest bits has fewer zeros
few_zeros : (j k x : ℕ) → 0 < x % 2 ^ j → count_trailing_zeros (j + k) x < j
few_zeros zero k x some = absurd (omega arith)
few_zeros (suc j) k x some =
    let more : suc j ≡ j + 1 = omega arith in
    let parts : x % 2 ^ suc j ≡ x / 2 % 2 ^ j * 2 + x % 2 = ap (λ i. x % 2 ^ i) more ∙ mod-pow-add x j 1 in
    let long : suc j + k ≡ suc (j + k) = omega arith in
    rw long (
    elim (eq-zero-or-pos (x % 2)) [
      | inl even ↦ omega (arith, parts, even_step (j + k) x even, few_zeros j k (x / 2) (omega arith))
      | inr odd ↦ omega (arith, odd_step (j + k) x (omega arith))
    ]
    )

-- so many bytes that are 0, and one that is not
pub zero_bytes : (zeros k first : ℕ) (rest : List ℕ) → 0 < first → first < 256
    → count_trailing_zeros (zeros * 8 + (8 + k)) (number_l 256 (replicate zeros 0 ++ first ∷ rest)) / 8 ≡ zeros
zero_bytes zero k first rest some low =
    let x = first + 256 * number_l 256 rest in
    let long : 0 * 8 + (8 + k) ≡ 8 + k = omega arith in
    rw long (omega (arith, few_zeros 8 k x (omega arith)))
zero_bytes (suc zeros) k first rest some low =
    let x = number_l 256 (replicate zeros 0 ++ first ∷ rest) in
    let long : suc zeros * 8 + (8 + k) ≡ 8 + (zeros * 8 + (8 + k)) = omega arith in
    let plain : 0 + 256 * x ≡ 256 * x = omega arith in
    rw (long, plain) (omega (arith, zero_byte (zeros * 8 + (8 + k)) x, zero_bytes zeros k first rest some low))

-- ---- a number's digits

-- the last digits of a number above 0, with zeros in front
record Leads (count n : ℕ) : Type 0 where
  zeros : ℕ
  first : ℕ
  rest : List ℕ
  digits : last_digits count n ≡ replicate zeros 0 ++ first ∷ rest
  some : 0 < first
  low : first < 10
  text : decimal n ≡ map (λ d. 48 + d) (first ∷ rest)
  long : zeros + length (decimal n) ≡ count

no_digits : (count : ℕ) → last_digits count 0 ≡ replicate count 0
no_digits zero = refl
no_digits (suc count) =
    let more : suc count ≡ count + 1 = omega arith in
    ap (λ (ds : List ℕ). ds ++ 0 ∷ []) (no_digits count) ∙ sym (replicate_next count 0)
    ∙ ap (λ k. replicate k 0) (sym more)

leads_one : (count n : ℕ) → 0 < n → n < 10 → Leads (suc count) n
leads_one count n some one =
    let none : n / 10 ≡ 0 = omega arith in
    let itself : n % 10 ≡ n = omega arith in
    let text = decimal_digit n one in
    record {
      zeros = count;
      first = n;
      rest = [];
      digits = rw (none, itself) (ap (λ (ds : List ℕ). ds ++ n ∷ []) (no_digits count));
      some = some;
      low = one;
      text = text;
      long = omega (arith, ap length text);
    }

leads_more : (count n : ℕ) → 10 ≤ n → n < 2 ^ 64 → Leads count (n / 10) → Leads (suc count) n
leads_more count n more fits p =
    let last = n % 10 in
    let step = decimal_step n more fits in
    record {
      zeros = p.zeros;
      first = p.first;
      rest = p.rest ++ last ∷ [];
      digits = ap (λ (ds : List ℕ). ds ++ last ∷ []) p.digits
          ∙ append_assoc (replicate p.zeros 0) (p.first ∷ p.rest) (last ∷ []);
      some = p.some;
      low = p.low;
      text = step ∙ ap (λ (ds : List ℕ). ds ++ (48 + last) ∷ []) p.text
          ∙ sym (map-append (λ d. 48 + d) (p.first ∷ p.rest) (last ∷ []));
      long = omega (arith, ap length step, length-append (decimal (n / 10)) ((48 + last) ∷ []), p.long);
    }

leads : (count n : ℕ) → 0 < n → n < 10 ^ count → n < 2 ^ 64 → Leads count n
leads zero n some low fits = absurd (omega arith)
leads (suc count) n some low fits =
    elim (cases_lt n 10) [
      | inl one ↦ leads_one count n some one
      | inr more ↦ leads_more count n more fits (leads count (n / 10) (omega arith) (omega (arith, pow-suc 10 count))
          (omega arith))
    ]

-- The eight digits of a number below 10 ^ 8: so many zeros and then its text. They are where the word's lowest 1 is,
-- once its last byte is marked.
pub record IsPadded (n zeros : ℕ) : Type 0 where
  pub long : zeros + length (decimal n) ≡ 8
  pub text : map (λ d. 48 + d) (last_digits 8 n) ≡ replicate zeros 48 ++ decimal n
  pub trailing : count_trailing_zeros 64 (number_l 256 (last_digits 8 n) + 2 ^ 60) / 8 ≡ zeros

text_of_zeros : (count : ℕ) → map (λ d. 48 + d) (replicate count 0) ≡ replicate count 48
text_of_zeros zero = refl
text_of_zeros (suc count) = ap (λ (ds : List ℕ). 48 ∷ ds) (text_of_zeros count)

text_of_digits : (zeros : ℕ) (ds text : List ℕ) → text ≡ map (λ d. 48 + d) ds
    → map (λ d. 48 + d) (replicate zeros 0 ++ ds) ≡ replicate zeros 48 ++ text
text_of_digits zeros ds text e = map-append (λ d. 48 + d) (replicate zeros 0) ds
    ∙ (λ i. text_of_zeros zeros i ++ sym e i)

-- a mark on the last of eight bytes
marked : (n : ℕ) → number_l 256 (last_digits 8 n) + 2 ^ 60 ≡ number_l 256 (last_digits 7 (n / 10) ++ (n % 10 + 16) ∷ [])
marked n = omega arith

trailing_zeros : (zeros n first : ℕ) (rest : List ℕ) → zeros ≤ 7 → 0 < first → first < 256
    → last_digits 7 (n / 10) ++ (n % 10 + 16) ∷ [] ≡ replicate zeros 0 ++ first ∷ rest
    → count_trailing_zeros 64 (number_l 256 (last_digits 8 n) + 2 ^ 60) / 8 ≡ zeros
trailing_zeros zeros n first rest few some low e =
    let long : 64 ≡ zeros * 8 + (8 + (56 - zeros * 8)) = omega arith in
    (λ i. count_trailing_zeros (long i) ((marked n ∙ ap (number_l 256) e) i) / 8)
    ∙ zero_bytes zeros (56 - zeros * 8) first rest some low

padded_one : (n : ℕ) → n < 10 → IsPadded n 7
padded_one n one =
    let none : n / 10 ≡ 0 = omega arith in
    let itself : n % 10 ≡ n = omega arith in
    let text = decimal_digit n one in
    record {
      long = omega (arith, ap length text);
      text = rw (none, itself, text) refl;
      trailing = trailing_zeros 7 n (n + 16) [] (omega arith) (omega arith) (omega arith) (rw (none, itself) refl);
    }

padded_more : (n : ℕ) → 10 ≤ n → n < 2 ^ 64 → (p : Leads 7 (n / 10)) → IsPadded n p.zeros
unfolding leads_more
padded_more n more fits p =
    let last = n % 10 in
    let all = leads_more 7 n more fits p in
    record {
      long = all.long;
      text = ap (map (λ d. 48 + d)) all.digits ∙ text_of_digits p.zeros (all.first ∷ all.rest) (decimal n) all.text;
      trailing =
          trailing_zeros p.zeros n p.first (p.rest ++ (last + 16) ∷ []) (omega (arith, p.long)) p.some
          (omega (arith, p.low))
          (ap (λ (ds : List ℕ). ds ++ (last + 16) ∷ []) p.digits
          ∙ append_assoc (replicate p.zeros 0) (p.first ∷ p.rest) ((last + 16) ∷ []));
    }

pub padded : (n : ℕ) → n < 10 ^ 8 → (zeros : ℕ) × IsPadded n zeros
padded n low =
    elim (cases_lt n 10) [
      | inl one ↦ (7, padded_one n one)
      | inr more ↦
          let p = leads 7 (n / 10) (omega arith) (omega arith) (omega arith) in
          (p.zeros, padded_more n more (omega arith) p)
    ]

-- ---- the text in a word

-- zeros in front are shifted out
shifted : (zeros : ℕ) (text : List ℕ) → number_l 256 (replicate zeros 48 ++ text) / 2 ^ (8 * zeros) ≡ number_l 256 text
shifted zero text = omega arith
shifted (suc zeros) text =
    let word = number_l 256 (replicate zeros 48 ++ text) in
    let long : 8 * suc zeros ≡ 8 + 8 * zeros = omega arith in
    let byte : (48 + 256 * word) / 2 ^ 8 ≡ word = omega arith in
    ap (λ k. (48 + 256 * word) / 2 ^ k) long ∙ sym (shr-shr (48 + 256 * word) 8 (8 * zeros))
    ∙ ap (λ w. w / 2 ^ (8 * zeros)) byte ∙ shifted zeros text

-- zeros after the text do not change the word
zeros_behind : (text : List ℕ) (count : ℕ) → number_l 256 (text ++ replicate count 0) ≡ number_l 256 text
zeros_behind [] zero = refl
zeros_behind [] (suc count) = ap (λ w. 0 + 256 * w) (zeros_behind [] count)
zeros_behind (b ∷ text) count = ap (λ w. b + 256 * w) (zeros_behind text count)

fit : (text : List ℕ) (count : ℕ) → IsAscii text → (i : ℕ) → get_or (text ++ replicate count 0) i 0 < 256
fit [] zero h i = omega arith
fit [] (suc count) h zero = omega arith
fit [] (suc count) h (suc i) = fit [] count h i
fit (b ∷ text) count h zero = omega (arith, h 0)
fit (b ∷ text) count h (suc i) = fit text count (λ k. h (suc k)) i

word_is : (bytes : List ℕ) → length bytes ≡ 8 → number_l 256 bytes ≡ from_le_bytes w64 bytes
word_is [] long = absurd (omega arith)
word_is (a ∷ []) long = absurd (omega arith)
word_is (a ∷ b ∷ []) long = absurd (omega arith)
word_is (a ∷ b ∷ c ∷ []) long = absurd (omega arith)
word_is (a ∷ b ∷ c ∷ d ∷ []) long = absurd (omega arith)
word_is (a ∷ b ∷ c ∷ d ∷ e ∷ []) long = absurd (omega arith)
word_is (a ∷ b ∷ c ∷ d ∷ e ∷ f ∷ []) long = absurd (omega arith)
word_is (a ∷ b ∷ c ∷ d ∷ e ∷ f ∷ g ∷ []) long = absurd (omega arith)
word_is (a ∷ b ∷ c ∷ d ∷ e ∷ f ∷ g ∷ h ∷ []) long = omega arith
word_is (a ∷ b ∷ c ∷ d ∷ e ∷ f ∷ g ∷ h ∷ i ∷ bytes) long = absurd (omega arith)

-- the bytes of the word from which the zeros in front were shifted out
pub text_bytes : (n digits zeros : ℕ) → n < 10 ^ 8 → digits ≡ number_l 256 (last_digits 8 n)
    → zeros + length (decimal n) ≡ 8
    → to_le_bytes w64 ((digits + 0x3030_3030_3030_3030) / 2 ^ (8 * zeros)) ≡ decimal n ++ replicate zeros 0
text_bytes n digits zeros low e long =
    let p = padded n low in
    let same : p.0 ≡ zeros = omega (arith, p.1.long) in
    let glyphs : digits + 0x3030_3030_3030_3030 ≡ number_l 256 (map (λ d. 48 + d) (last_digits 8 n)) = omega arith in
    let text : map (λ d. 48 + d) (last_digits 8 n) ≡ replicate zeros 48 ++ decimal n =
    p.1.text ∙ ap (λ k. replicate k 48 ++ decimal n) same in
    let all : length (decimal n ++ replicate zeros 0) ≡ 8 =
    omega (arith, length-append (decimal n) (replicate zeros 0), length-replicate {A = ℕ} zeros 0) in
    let word : (digits + 0x3030_3030_3030_3030) / 2 ^ (8 * zeros) ≡ number_l 256 (decimal n) =
    ap (λ w. w / 2 ^ (8 * zeros)) (glyphs ∙ ap (number_l 256) text) ∙ shifted zeros (decimal n) in
    le_bytes_8 (decimal n ++ replicate zeros 0) _ all (fit (decimal n) zeros (IsAscii-decimal n (omega arith)))
    (word ∙ sym (zeros_behind (decimal n) zeros) ∙ word_is _ all)

-- ---- eight digits, the zeros in front too

-- the bytes of the word, as characters
pub eight_bytes : (n digits : ℕ) → digits ≡ number_l 256 (last_digits 8 n)
    → to_le_bytes w64 (digits + 0x3030_3030_3030_3030) ≡ map (λ d. 48 + d) (last_digits 8 n)
eight_bytes n digits e = search rules

some_power : (count : ℕ) → 0 < 10 ^ count
some_power zero = omega arith
some_power (suc count) = omega (arith, pow-suc 10 count, some_power count)

-- the last digits of a number come after those of what is left without them
last_of : (count n : ℕ) → 10 ^ count ≤ n → n < 2 ^ 64
    → decimal n ≡ decimal (n / 10 ^ count) ++ map (λ d. 48 + d) (last_digits count n)
last_of zero n some fits = search rules
last_of (suc count) n some fits =
    let power : 10 ^ suc count ≡ 10 * 10 ^ count = omega (arith, pow-suc 10 count) in
    let before : n / 10 / 10 ^ count ≡ n / 10 ^ suc count = div-div-eq-div-mul n 10 (10 ^ count) ∙
    ap (λ k. n / k) (sym power) in
    decimal_step n (omega (arith, power, some_power count)) fits
    ∙ ap (λ (ds : List ℕ). ds ++ (48 + n % 10) ∷ [])
    (last_of count (n / 10) (omega (arith, power)) (omega arith) ∙
    ap (λ k. decimal k ++ map (λ d. 48 + d) (last_digits count (n / 10))) before)
    ∙ append_assoc (decimal (n / 10 ^ suc count)) (map (λ d. 48 + d) (last_digits count (n / 10))) ((48 + n % 10) ∷ [])
    ∙ ap (λ (ds : List ℕ). decimal (n / 10 ^ suc count) ++ ds)
    (sym (map-append (λ d. 48 + d) (last_digits count (n / 10)) (n % 10 ∷ [])))

-- the last eight digits, of the number or of what eight digits leave
same_last : (n : ℕ) → last_digits 8 (n % 100_000_000) ≡ last_digits 8 n
same_last n = search rules

-- a number of more than eight digits: what is left without the last eight, and these
pub double_text : (n : ℕ) → 10 ^ 8 ≤ n → n < 2 ^ 64
    → decimal n ≡ decimal (n / 100_000_000) ++ map (λ d. 48 + d) (last_digits 8 (n % 100_000_000))
double_text n some fits = last_of 8 n some fits
    ∙ ap (λ (ds : List ℕ). decimal (n / 100_000_000) ++ map (λ d. 48 + d) ds) (sym (same_last n))

-- a text after a beginning, and what follows it
pub text_stands : (at m : ℕ) (front text behind after : List ℕ) → length front ≡ at → m ≡ at + length text
    → take m (front ++ ((text ++ behind) ++ after)) ≡ front ++ text
text_stands at m front text behind after long end = search (rules, take-append-add, append_assoc, take-append_seam)
