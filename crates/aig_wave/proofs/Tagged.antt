-- The text of a change tells the code of its signal, and beside that code the signal's characters.
use Rattle.std.proofs.Common.{◌≡◌, ◌≢◌, ◌==◌, ◌||◌, ◌<◌, ◌/◌, ◌%◌, ◌∙◌, ◌+◌, ◌∷◌, ◌++◌, if◌then◌else◌, ℕ, zero, suc}
use Rattle.std.proofs.Common.{List, [], Bool, true, false, codes, decimal, length, reverse, refl, sym, ap, ap₂, arith}
use Rattle.std.proofs.Common.{append_assoc, append-nil, length-append, drop, ne_eqb}
use Rattle.std.proofs.lemmas.Bool.Decides.{nat_tests}
use Rattle.std.proofs.lemmas.List.{append_cancel_right, length-reverse, reverse-reverse}
use Rattle.std.specs.Fmt.{digit_glyph, digits, digits_onto}
use Rattle.std.specs.List.{AllByRecursion}
use Rattle.aig_circuit.specs.declared.circuit.Kind.{Kind}
use Rattle.aig_circuit.specs.declared.circuit.Kind.TheVariants.{Input}
use mathlib.Core.List.{reverse_aux}
use Rattle.aig_wave.specs.declared.signal.Signal.{Signal}
use Rattle.aig_wave.specs.Head.{code}
use Rattle.aig_wave.specs.Places.{letter}
use Rattle.aig_wave.specs.Wave.{time_text, value_text}

-- above a space and a line feed
abbrev IsSolid : ℕ → Type 0
IsSolid b = 32 < b

abbrev AreSolid : List ℕ → Type 0
AreSolid text = AllByRecursion IsSolid text

-- the character of a value
abbrev is_value : ℕ → Bool
is_value b = (b == 48) || ((b == 49) || ((b == 120) || (b == 122)))

abbrev pub AreValues : List ℕ → Type 0
AreValues text = AllByRecursion (λ b. is_value b ≡ true) text

solid_value : (b : ℕ) → is_value b ≡ true → IsSolid b
solid_value b is = grind (arith, nat_tests)

solid_values : (text : List ℕ) → AreValues text → AreSolid text
solid_values [] are = tt
solid_values (b ∷ bs) are = (solid_value b are.0, solid_values bs are.1)

solid_turned : (text behind : List ℕ) → AreSolid text → AreSolid behind → AreSolid (reverse_aux text behind)
solid_turned [] behind are are_too = are_too
solid_turned (b ∷ bs) behind are are_too = solid_turned bs (b ∷ behind) are.1 (are.0, are_too)

solid_glyph : (d : ℕ) → IsSolid (digit_glyph false d)
solid_glyph d = grind (arith, nat_tests)

solid_if : (test : Bool) (a b : List ℕ) → AreSolid a → AreSolid b → AreSolid (if test then a else b)
solid_if true a b p q = p
solid_if false a b p q = q

solid_onto : (k base n : ℕ) (text : List ℕ) → AreSolid text → AreSolid (digits_onto k base false n text)
solid_onto zero base n text are = are
solid_onto (suc k) base n text are =
    let more : AreSolid (digit_glyph false (n % base) ∷ text) = (solid_glyph (n % base), are) in
    solid_if (n / base == 0) _ _ more (solid_onto k base (n / base) _ more)

pub solid_digits : (base n : ℕ) → AreSolid (digits base false n)
unfolding digits
solid_digits base n = solid_onto 64 base n [] tt

-- the last word of the first line
abbrev word : List ℕ → List ℕ → List ℕ
word begun [] = begun
word begun (b ∷ bs) = if b == 10 then begun else if b == 32 then word [] bs else word (begun ++ b ∷ []) bs

word_on : (begun text rest : List ℕ) → AreSolid text → word begun (text ++ rest) ≡ word (begun ++ text) rest
word_on begun [] rest are = ap (λ (t : List ℕ). word t rest) (sym (append-nil begun))
word_on begun (b ∷ bs) rest are =
    let no_feed : b ≢ 10 = λ e. omega (arith, e, are.0) in
    let no_space : b ≢ 32 = λ e. omega (arith, e, are.0) in
    rw (ne_eqb b 10 no_feed, ne_eqb b 32 no_space)
    (word_on (begun ++ b ∷ []) bs rest are.1
    ∙ ap (λ (t : List ℕ). word t rest) (append_assoc begun (b ∷ []) bs))

-- a word without the values in front
abbrev past_values : List ℕ → List ℕ
past_values [] = []
past_values (b ∷ bs) = if is_value b then past_values bs else b ∷ bs

past : (values : List ℕ) (b : ℕ) (bs : List ℕ) → AreValues values → is_value b ≡ false
    → past_values (values ++ b ∷ bs) ≡ b ∷ bs
past [] b bs are other = rw other refl
past (v ∷ vs) b bs are other = rw are.0 (past vs b bs are.1 other)

-- the code of the signal that a text of changes begins with
abbrev pub tag : List ℕ → List ℕ
tag text = past_values (word [] text)

letter_fits : (k : Kind) → (letter k ≢ 35) × (letter k ≢ 114) × (is_value (letter k) ≡ false)
letter_fits Input = ((λ e. omega (arith, e)), (λ e. omega (arith, e)), refl)
letter_fits _ = ((λ e. omega (arith, e)), (λ e. omega (arith, e)), refl)

solid_letter : (k : Kind) → IsSolid (letter k)
solid_letter Input = omega arith
solid_letter _ = omega arith

solid_code : (s : Signal) → AreSolid (code s)
solid_code s = (solid_letter s.kind, solid_digits 10 s.first)

-- a bit's change, a vector's, and the run's
module _ (b : ℕ) (bs : List ℕ) (other : is_value b ≡ false) (solid : AreSolid (b ∷ bs)) where
  tag_bit : (values rest : List ℕ) → AreValues values → tag (values ++ (b ∷ bs ++ 10 ∷ rest)) ≡ b ∷ bs
  tag_bit values rest are =
      ap past_values (word_on [] values (b ∷ bs ++ 10 ∷ rest) (solid_values values are)
      ∙ word_on values (b ∷ bs) (10 ∷ rest) solid)
      ∙ past values b bs are other

  pub tag_vector : (characters rest : List ℕ) → AreSolid characters
      → tag (98 ∷ (characters ++ 32 ∷ (b ∷ bs ++ 10 ∷ rest))) ≡ b ∷ bs
  tag_vector characters rest are =
      ap past_values (word_on (98 ∷ []) characters (32 ∷ (b ∷ bs ++ 10 ∷ rest)) are
      ∙ word_on [] (b ∷ bs) (10 ∷ rest) solid)
      ∙ past [] b bs tt other

tag_value : (bit : Bool) (c : List ℕ) (values rest : List ℕ) (b : ℕ) (bs : List ℕ) → c ≡ b ∷ bs
    → is_value b ≡ false → AreSolid (b ∷ bs) → AreValues values
    → tag (((if bit then values else codes "b" ++ (reverse values ++ codes " ")) ++ (c ++ codes "\n")) ++ rest) ≡ c
tag_value true c values rest b bs is other solid are =
    ap tag (append_assoc values (c ++ codes "\n") rest
    ∙ ap (λ (t : List ℕ). values ++ t) (append_assoc c (codes "\n") rest
    ∙ ap (λ (t : List ℕ). t ++ 10 ∷ rest) is))
    ∙ tag_bit b bs other solid values rest are ∙ sym is
tag_value false c values rest b bs is other solid are =
    let turned = reverse values in
    ap tag (ap (λ (t : List ℕ). 98 ∷ t)
    (append_assoc (turned ++ 32 ∷ []) (c ++ codes "\n") rest ∙ append_assoc turned (32 ∷ []) ((c ++ codes "\n") ++ rest)
    ∙ ap (λ (t : List ℕ). turned ++ 32 ∷ t) (append_assoc c (codes "\n") rest
    ∙ ap (λ (t : List ℕ). t ++ 10 ∷ rest) is)))
    ∙ tag_vector b bs other solid turned rest (solid_turned values [] (solid_values values are) tt) ∙ sym is

-- the text of a change, where these are the signal's characters now
abbrev pub changed_text : Signal → List ℕ → List ℕ
changed_text s values = value_text s values ++ (code s ++ codes "\n")

pub tag_changed : (s : Signal) (values rest : List ℕ) → AreValues values → tag (changed_text s values ++ rest) ≡ code s
tag_changed s values rest are =
    tag_value (s.size == 1) (code s) values rest (letter s.kind) (decimal s.first) refl (letter_fits s.kind).2
    (solid_code s) are

pub tag_time : (n : ℕ) (rest : List ℕ) → tag (time_text n ++ rest) ≡ 35 ∷ decimal n
tag_time n rest =
    let hash : AreSolid (35 ∷ decimal n) = (omega arith, solid_digits 10 n) in
    ap tag (append_assoc (35 ∷ decimal n) (10 ∷ []) rest)
    ∙ ap past_values (word_on [] (35 ∷ decimal n) (10 ∷ rest) hash)

-- neither a time nor the run is a signal's
pub not_time : (s : Signal) (n : ℕ) (rest : List ℕ) → code s ≢ tag (time_text n ++ rest)
not_time s n rest = λ same. (
    let is : code s ≡ 35 ∷ decimal n = same ∙ tag_time n rest in
    let letters : letter s.kind ≡ 35 = cc in
    (letter_fits s.kind).0 letters)

pub not_run : (s : Signal) → codes "r" ≢ code s
not_run s = λ same. (let letters : letter s.kind ≡ 114 = cc in (letter_fits s.kind).1 letters)

-- texts of one signal are as long
joined_same : (a b rest more : List ℕ) → length a ≡ length b → a ++ rest ≡ b ++ more → (a ≡ b) × (rest ≡ more)
joined_same [] [] rest more long e = (refl, e)
joined_same [] (y ∷ ys) rest more long e = absurd (omega arith)
joined_same (x ∷ xs) [] rest more long e = absurd (omega arith)
joined_same (x ∷ xs) (y ∷ ys) rest more long e =
    let heads : x ≡ y = cc in
    let tails : xs ++ rest ≡ ys ++ more = cc in
    let same = joined_same xs ys rest more (omega arith) tails in
    (ap₂ (λ (h : ℕ) (t : List ℕ). h ∷ t) heads same.0, same.1)

as_long : (bit : Bool) (a b : List ℕ) → length a ≡ length b
    → length (if bit then a else codes "b" ++ (reverse a ++ codes " "))
    ≡ length (if bit then b else codes "b" ++ (reverse b ++ codes " "))
as_long true a b long = long
as_long false a b long = simp (length-append, length-reverse) (omega arith)

same_values : (bit : Bool) (a b : List ℕ) → (if bit then a else codes "b" ++ (reverse a ++ codes " "))
    ≡ (if bit then b else codes "b" ++ (reverse b ++ codes " ")) → a ≡ b
same_values true a b e = e
same_values false a b e =
    let behind : reverse a ++ 32 ∷ [] ≡ reverse b ++ 32 ∷ [] = ap (drop 1) e in
    let turned : reverse a ≡ reverse b = append_cancel_right (reverse a) (reverse b) (32 ∷ []) behind in
    sym (reverse-reverse a) ∙ ap reverse turned ∙ reverse-reverse b

pub same_changed : (s : Signal) (a b rest more : List ℕ) → length a ≡ length b
    → changed_text s a ++ rest ≡ changed_text s b ++ more → (a ≡ b) × (rest ≡ more)
same_changed s a b rest more long e =
    let end = code s ++ codes "\n" in
    let long_too : length (changed_text s a) ≡ length (changed_text s b) =
    length-append (value_text s a) end ∙ ap (λ (n : ℕ). n + length end) (as_long (s.size == 1) a b long)
    ∙ sym (length-append (value_text s b) end) in
    let texts = joined_same (changed_text s a) (changed_text s b) rest more long_too e in
    (same_values (s.size == 1) a b (append_cancel_right (value_text s a) (value_text s b) end texts.0), texts.1)
