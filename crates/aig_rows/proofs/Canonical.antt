-- Rows in plain spelling are rows, and canonical numbers are what `decimal` writes.
use Rattle.std.proofs.Common.{◌≡◌, ◌≢◌, ◌+◌, ◌*◌, ◌-◌, ◌%◌, ◌^◌, ◌<◌, ◌≤◌, ◌∷◌, ◌++◌, ◌∙◌, ℕ, suc, List, [], take, drop}
use Rattle.std.proofs.Common.{length, get_or, true, false, cond, refl, sym, ap, ap₂, subst, arith, rules, append_assoc}
use Rattle.std.proofs.Common.{append-nil, Ok, inl, None, zero, Bool, true≢false, min, Option, Some, fold, decimal}
use Rattle.std.proofs.Common.{length-append, take-append-drop, length-take-le, take-take, set, length-set, eqb-true}
use Rattle.std.proofs.Common.{eq-eqb, ne_eqb}
use Rattle.std.specs.List.{AllByRecursion}
use Rattle.std.specs.Float.Numeral.{digits_len}
use Rattle.std.specs.Str.Parse.{digits_value}
use Rattle.std.proofs.lemmas.List.{drop_more, take_more_set}
use Rattle.std.proofs.lemmas.Str.Parse.{IsNumeralModel, numerals_by_fold, digits_value_short}
use Rattle.std.proofs.lemmas.Fmt.{decimal_nonempty, first_decimal, decimal_digit, decimal-digits_value, digits_decimal}
use Rattle.std.proofs.lemmas.Fmt.{digits_value-decimal}
use Rattle.std.proofs.lemmas.Option.{cond_some}
use Rattle.aig_circuit.proofs.Checking.{joined}
use Rattle.aig_lines.specs.Lines.{ahead, line, lines_of, HasNoLineFeed}
use Rattle.aig_lines.proofs.Pieces.{ended_piece}
use Rattle.aig_rows.specs.Rows.{Form, row, IsRowLine}
use Rattle.aig_rows.specs.Reading.{fault_in_row, unless_wrong, checked_row, row_of, row_at}
use Rattle.aig_rows.specs.Spelling.{is_digit, value_of, IsNumber, AreMoreNumbers, zeros}
use Rattle.aig_rows.specs.Parts.Plain.{BeginsWithNumber, BeginsWithMore, EndsPlainly}
use Rattle.aig_rows.specs.Scanning.{number_at}
use Rattle.aig_rows.specs.CanonicalNumber.{after_byte, number_before, is_padded, canonical_before}
use Rattle.aig_rows.proofs.Kept.Numbers.{still_empty}
use Rattle.aig_rows.proofs.Grammar.NumberLines.{row_is_read, some_then, and_no}
use Rattle.aig_rows.proofs.Grammar.Spellings.{front_passes, number_reads, number_is_read}

-- bytes that are all decimal digits
abbrev pub AreDigits : List ℕ → Type 0
AreDigits text = AllByRecursion (λ b. is_digit b ≡ true) text

-- the tests and the value of this crate are std's, in other words
decimal_model : IsNumeralModel AreDigits value_of
decimal_model =
    numerals_by_fold AreDigits (search rules) (λ n digits. fold (λ m b. 10 * m + (b - 48)) n digits) (search rules)

small_mod : (n : ℕ) → n < 10 ^ 18 → n % 2 ^ 64 ≡ n
small_mod n h = omega arith

-- digits at the front, and what follows them
digits_are_number : (bytes rest : List ℕ) (end value : ℕ) → end ≢ 0 → end ≤ length bytes → AreDigits (take end bytes)
    → value_of (take end bytes) ≡ value → rest ≡ drop end bytes → BeginsWithNumber bytes value rest
digits_are_number bytes rest end value some within are found after = search (rules, take-append-drop, length-take-le)

same_value : (digits : List ℕ) → AreDigits digits → value_of digits ≡ digits_value 10 digits
same_value digits are = decimal_model.same digits (decimal_model.to digits are)

-- what follows so many bytes
behind_is : (bytes rest : List ℕ) (end behind : ℕ) → end < length bytes → behind ≡ get_or bytes end 0
    → rest ≡ drop (end + 1) bytes → behind ∷ rest ≡ drop end bytes
behind_is bytes rest end behind within is after =
    ap₂ (λ (b : ℕ) (bs : List ℕ). b ∷ bs) is after ∙ sym (drop_more bytes end 0 within)

-- the digits at the front, where there are at most 18 of them, and the byte after them
pub plain_number_is : (bytes rest : List ℕ) (end value behind : ℕ) → end ≢ 0 → end ≤ 18 → end < length bytes
    → end ≡ digits_len bytes → value ≡ digits_value 10 (take end bytes) % 2 ^ 64 → behind ≡ get_or bytes end 0
    → rest ≡ drop (end + 1) bytes → BeginsWithNumber bytes value (behind ∷ rest)
plain_number_is bytes rest end value behind some few within is found next after =
    let are = subst (λ k. AreDigits (take k bytes)) (sym is) (front_passes is_digit bytes) in
    let short =
    digits_value_short decimal_model (take end bytes) 18 are (omega (arith, length-take-le end bytes (omega arith))) in
    digits_are_number bytes (behind ∷ rest) end value some (omega arith) are
    (sym
    (found ∙ ap (λ n. n % 2 ^ 64) (sym (same_value (take end bytes) are))
    ∙ small_mod (value_of (take end bytes)) short)) (behind_is bytes rest end behind within next after)

first_digits : (n : ℕ) (bytes : List ℕ) → n ≤ digits_len bytes → AreDigits (take n bytes)
first_digits (suc n) (b ∷ bytes) h =
    elim (is_digit b) as
    (λ d. is_digit b ≡ d → suc n ≤ cond d (1 + digits_len bytes) 0 → AreDigits (b ∷ take n bytes)) [
      | true ↦ λ is more. (is, first_digits n bytes (omega arith))
      | false ↦ λ is more. absurd (omega arith)
    ] refl h
first_digits n bytes h = tt

-- digits of the first eight bytes, and the byte after them
pub short_number_is : (bytes rest : List ℕ) (end value behind : ℕ) → end ≢ 0 → end ≤ 8 → 8 < length bytes
    → (end ≤ digits_len (take 8 bytes)) × (value ≡ digits_value 10 (take end (take 8 bytes)))
    → behind ≡ get_or bytes end 0 → rest ≡ drop (end + 1) bytes
    → BeginsWithNumber bytes value (behind ∷ rest)
short_number_is bytes rest end value behind some few long read next after =
    let same : take end (take 8 bytes) ≡ take end bytes = take-take end 8 bytes (omega arith) in
    let are : AreDigits (take end bytes) = subst AreDigits same (first_digits end (take 8 bytes) read.0) in
    digits_are_number bytes (behind ∷ rest) end value some (omega arith) are
    (same_value (take end bytes) are ∙ ap (digits_value 10) (sym same) ∙ sym read.1)
    (behind_is bytes rest end behind (omega arith) next after)

-- numbers, each after a space
one_more : (text ns digits : List ℕ) (n : ℕ) → AreMoreNumbers text ns → IsNumber digits n
    → AreMoreNumbers (text ++ 32 ∷ digits) (ns ++ n ∷ [])
one_more text [] digits n h d =
    rw h
    (32 ∷ [], digits, [], ap (λ (t : List ℕ). 32 ∷ t) (sym (append-nil digits)), (omega arith, (refl, tt)), d, refl)
one_more text (m ∷ ns) digits n h d = (
  h.0,
  h.1,
  h.2 ++ 32 ∷ digits,
  search (rules, append_assoc),
  h.4,
  h.5,
  one_more h.2 ns digits n h.6 d,
)

digit_is_no_line_feed : (b : ℕ) → is_digit b ≡ true → b ≢ 10
digit_is_no_line_feed b h = search rules

pub digits_have_no_line_feed : (text : List ℕ) → AreDigits text → HasNoLineFeed text
digits_have_no_line_feed [] h = tt
digits_have_no_line_feed (b ∷ bs) h = (digit_is_no_line_feed b h.0, digits_have_no_line_feed bs h.1)

begins_with_more : (bytes rest digits after ns : List ℕ) (n : ℕ) → BeginsWithMore bytes ns rest
    → rest ≡ 32 ∷ digits → BeginsWithNumber digits n after → BeginsWithMore bytes (ns ++ n ∷ []) after
begins_with_more bytes rest digits after ns n b space m = record {
  text = b.text ++ 32 ∷ m.digits;
  are = search (rules, append_assoc);
  spelled = one_more b.text ns m.digits n b.spelled m.spelled;
  one_line = search (rules, joined, digits_have_no_line_feed);
}

-- the numbers that are stored, zeros at the places of the others, and what the bytes begin with after the numbers
pub record ArePlain (n i : ℕ) (items bytes rest : List ℕ) : Type 0 where
  pub long : length items ≡ n
  pub empty : drop i items ≡ zeros (n - i)
  pub begins : BeginsWithMore bytes (take i items) rest

-- one more number is stored at its place
pub plain_more : (n i : ℕ) (items bytes rest after : List ℕ) (behind value : ℕ) → i < n → behind ≡ 32
    → ArePlain n i items bytes (behind ∷ rest) → BeginsWithNumber rest value after
    → ArePlain n (i + 1) (set items i value) bytes after
plain_more n i items bytes rest after behind value l space p m =
    search (rules, length-set, still_empty, take_more_set, begins_with_more)

-- the line ends, and the others are left out
pub plain_end : (least n i : ℕ) (items bytes rest : List ℕ) (behind : ℕ) → i < n → least ≤ i → behind ≡ 10
    → ArePlain n i items bytes (behind ∷ rest) → EndsPlainly least bytes items rest
plain_end least n i items bytes rest behind l enough feed p = record {
  written = take i items;
  left_out = n - i;
  are = sym (take-append-drop i items) ∙ ap (λ (others : List ℕ). take i items ++ others) p.empty;
  enough = let e : length items ≡ n = p.long in omega (arith, length-take-le i items (omega arith));
  begins = rw feed at p.begins;
}

-- a number and one that is left out, two numbers, where the first may not be left out
with_one : (bytes rest : List ℕ) (n : ℕ) → BeginsWithNumber bytes n rest → BeginsWithMore (32 ∷ bytes) (n ∷ []) rest
with_one bytes rest n m =
    begins_with_more (32 ∷ bytes) (32 ∷ bytes) bytes rest [] n
    (record { text = []; are = refl; spelled = refl; one_line = tt }) refl m

pub one_ends : (bytes rest : List ℕ) (n : ℕ) → BeginsWithNumber bytes n (10 ∷ rest)
    → EndsPlainly 1 (32 ∷ bytes) (n ∷ 0 ∷ []) rest
one_ends bytes rest n m = record {
  written = n ∷ [];
  left_out = 1;
  are = refl;
  enough = omega arith;
  begins = with_one bytes (10 ∷ rest) n m;
}

pub two_end : (bytes behind rest : List ℕ) (n k : ℕ) → BeginsWithNumber bytes n (32 ∷ behind)
    → BeginsWithNumber behind k (10 ∷ rest) → EndsPlainly 1 (32 ∷ bytes) (n ∷ k ∷ []) rest
two_end bytes behind rest n k m o = record {
  written = n ∷ k ∷ [];
  left_out = 0;
  are = refl;
  enough = omega arith;
  begins =
      begins_with_more (32 ∷ bytes) (32 ∷ behind) behind (10 ∷ rest) (n ∷ []) k (with_one bytes (32 ∷ behind) n m) refl
      o;
}

-- the same where the first may be left out: no number, and one
pub none_ends : (rest : List ℕ) → EndsPlainly 0 (10 ∷ rest) (0 ∷ []) rest
none_ends rest = record {
  written = [];
  left_out = 1;
  are = refl;
  enough = omega arith;
  begins = record { text = []; are = refl; spelled = refl; one_line = tt };
}

pub alone_ends : (bytes rest : List ℕ) (n : ℕ) → BeginsWithNumber bytes n (10 ∷ rest)
    → EndsPlainly 0 (32 ∷ bytes) (n ∷ []) rest
alone_ends bytes rest n m = record {
  written = n ∷ [];
  left_out = 0;
  are = refl;
  enough = omega arith;
  begins = with_one bytes (10 ∷ rest) n m;
}

-- what follows a row is shorter
pub shorter : (least : ℕ) (bytes rest after more : List ℕ) (first : ℕ) → BeginsWithNumber bytes first rest
    → EndsPlainly least rest more after → length after < length bytes
shorter least bytes rest after more first b m = search (rules, length-append)

-- the row that the bytes begin with
module _ (form : Form) (bytes rest after more : List ℕ) (first : ℕ) (b : BeginsWithNumber bytes first rest)
    (m : EndsPlainly form.least rest more after) where
  abbrev text : List ℕ
  text = b.digits ++ m.begins.text

  cut : lines_of bytes ≡ line text true ∷ lines_of after
  cut = search (rules, append_assoc, ended_piece, joined, digits_have_no_line_feed)

  holds : IsRowLine (line text true) (row form (first ∷ more))
  holds = record {
    first = first;
    more = more;
    digits = b.digits;
    rest = m.begins.text;
    are = refl;
    begins = refl;
    spelled = b.spelled;
    others = record {
      written = m.written;
      left_out = m.left_out;
      numbers = m.begins.text;
      ending = [];
      are = m.are;
      enough = m.enough;
      text_is = sym (append-nil m.begins.text);
      spelled = m.begins.spelled;
      ends = ([], tt, inl refl);
    };
  }

  tells : (bound carried : ℕ) → length more ≡ length form.others
      → fault_in_row form bound carried (first ∷ more) ≡ None
      → row_of form bound carried (line text true) ≡ Ok (first ∷ more)
  unfolding row_of checked_row
  tells bound carried long right =
      rw (row_is_read (line text true) form.least (length form.others) (first ∷ more) holds (ap suc long))
      (ap (unless_wrong (first ∷ more)) right)

  pub plain_row_is : (bound carried number : ℕ) → length more ≡ length form.others
      → fault_in_row form bound carried (first ∷ more) ≡ None
      → row_at form bound carried (ahead number (lines_of bytes))
      ≡ Ok (first ∷ more, ahead (number + 1) (lines_of after))
  plain_row_is bound carried number long right = rw (cut, tells bound carried long right) refl

-- Canonical numbers: what `decimal` writes is read as its number, and what is read is what `decimal` writes.
pub decimal_is_number : (n : ℕ) → n < 2 ^ 64 → IsNumber (decimal n) n
decimal_is_number n small = search (rules, decimal_nonempty, digits_decimal, decimal_model, digits_value-decimal)

-- where a byte is read, it stands there
byte_reads : (b : ℕ) (bytes rest : List ℕ) → after_byte b bytes ≡ Some rest → bytes ≡ b ∷ rest
byte_reads b [] rest h = cc
byte_reads b (a ∷ bytes) rest h = search (rules, cond_some, eqb-true)

-- digits that begin with a zero only if it is all of them
abbrev IsPlain : List ℕ → Type 0
IsPlain digits = get_or digits 0 0 ≡ 48 → length digits ≡ 1

-- what `decimal` writes is so
decimal_is_plain : (n : ℕ) → n < 2 ^ 64 → IsPlain (decimal n)
decimal_is_plain zero small h = ap length (decimal_digit 0 (omega arith))
decimal_is_plain (suc n) small h =
    let high : 48 < get_or (decimal (suc n)) 0 0 = first_decimal (suc n) (omega arith) small in absurd (omega arith)

-- such digits are not padded, where no digit follows them; and digits that are not padded are such
is_not_padded : (digits rest : List ℕ) (stop : ℕ) → 0 < length digits → IsPlain digits → is_digit stop ≡ false
    → is_padded (digits ++ stop ∷ rest) ≡ false
is_not_padded [] rest stop some plain ends = absurd (omega arith)
is_not_padded (a ∷ []) rest stop some plain ends = rw ends refl
is_not_padded (a ∷ b ∷ digits) rest stop some plain ends = search (rules, ne_eqb, and_no)

is_plain : (digits rest : List ℕ) → AreDigits digits → is_padded (digits ++ rest) ≡ false → IsPlain digits
is_plain [] rest are h lead = absurd (omega arith)
is_plain (a ∷ []) rest are h lead = refl
is_plain (a ∷ b ∷ digits) rest are h lead = absurd (true≢false (rw (are.1.0, eq-eqb a 48 lead) at h))

-- what `decimal` writes is read where this byte stands after it
pub canonical_is_read : (n stop : ℕ) (rest : List ℕ) → n < 2 ^ 33 → is_digit stop ≡ false
    → canonical_before stop (decimal n ++ stop ∷ rest) ≡ Some (n, rest)
unfolding canonical_before number_before
canonical_is_read n stop rest small ends =
    search (rules, is_not_padded, decimal_nonempty, decimal_is_plain, number_is_read, decimal_is_number, eq-eqb)

-- a test that a success has passed
passed : {A : Type 0} (b : Bool) (x : Option A) (y : A) → cond b None x ≡ Some y → (b ≡ false) × (x ≡ Some y)
passed true x y h = cc
passed false x y h = (refl, h)

-- digits that are not padded are what `decimal` writes of their number
pub digits_are_decimal : (digits rest : List ℕ) (n : ℕ) → n < 2 ^ 64 → IsNumber digits n
    → is_padded (digits ++ rest) ≡ false → digits ≡ decimal n
digits_are_decimal digits rest n small is h =
    sym (
    decimal-digits_value decimal_model digits is.digits is.some (is_plain digits rest is.digits h) (rw is.value small)
    )
    ∙ ap decimal is.value

-- a small number is taken as it is
small_is_kept : (m n : ℕ) → n < 2 ^ 33 → min m (2 ^ 33) ≡ n → m ≡ n
small_is_kept m n small h = omega arith

-- what is read as a small number is what `decimal` writes of it
pub canonical_reads : (n stop : ℕ) (bytes rest : List ℕ) → n < 2 ^ 33
    → canonical_before stop bytes ≡ Some (n, rest) → bytes ≡ decimal n ++ stop ∷ rest
unfolding canonical_before number_before
canonical_reads n stop bytes rest small h =
    let g = passed (is_padded bytes) _ _ h in
    let a = some_then (number_at bytes) _ _ g.1 in
    let b = some_then (after_byte stop a.0.1) _ _ a.2 in
    let is : (min a.0.0 (2 ^ 33), b.0) ≡ (n, rest) = cc in
    let same : a.0.0 ≡ n = small_is_kept a.0.0 n small (ap (λ (p : ℕ × List ℕ). p.0) is) in
    let read = number_reads bytes a.0.1 a.0.0 a.1 in
    let number : IsNumber read.0 n = subst (IsNumber read.0) same read.2 in
    let digits = digits_are_decimal read.0 a.0.1 n (omega (arith, small)) number (ap is_padded (sym read.1) ∙ g.0) in
    read.1 ∙ (λ j. digits j ++ (byte_reads stop a.0.1 b.0 b.1 ∙ ap (λ (p : ℕ × List ℕ). stop ∷ p.1) is) j)

-- a number that is read at once is read
pub short_is_read : (value stop : ℕ) (bytes rest : List ℕ) → is_digit stop ≡ false
    → BeginsWithNumber bytes value (stop ∷ rest) → number_before stop bytes ≡ Some (min value (2 ^ 33), rest)
unfolding number_before
short_is_read value stop bytes rest ends b = search (rules, number_is_read, eq-eqb)
