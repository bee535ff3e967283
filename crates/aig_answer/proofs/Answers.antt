-- The text of an answer is read as what it says, line by line.
use Rattle.std.proofs.Common.{◌≡◌, ◌≢◌, ◌+◌, ◌-◌, ◌*◌, ◌<◌, ◌≤◌, ◌^◌, ◌++◌, ◌∙◌, ◌&&◌, ℕ, List, [], ◌∷◌, Bool, true}
use Rattle.std.proofs.Common.{false}
use Rattle.std.proofs.Common.{Option, None, Some, Ok, ap, arith, codes, decimal, fold, get_or, if◌then◌else◌}
use Rattle.std.proofs.Common.{refl}
use Rattle.std.proofs.Common.{flat_map, sym}
use Rattle.std.specs.List.{AllByRecursion}
use Rattle.std.proofs.lemmas.Bool.{le-leb, leb-true, ne_eqb}
use Rattle.std.proofs.lemmas.Fmt.{first_decimal}
use Rattle.std.proofs.lemmas.List.Sums.{fold-append}
use Rattle.aig_rows.specs.Spelling.{value_of}
use Rattle.aig_rows.proofs.Canonical.{decimal_is_number}
use Rattle.aig_answer.specs.declared.reader.Signed.{Signed}
use Rattle.aig_answer.specs.declared.reader.Spot.{Spot}
use Rattle.aig_answer.specs.declared.reader.Spot.TheVariants as spots
use Rattle.aig_answer.specs.declared.reader.Status.{Status}
use Rattle.aig_answer.specs.declared.reader.Status.TheVariants.{Satisfiable, Unsatisfiable, Unknown}
use Rattle.aig_answer.specs.Answer.{SoFar, after, answer_of, begun, closed, is_digit, line_after, so_far, status_text}
use Rattle.aig_answer.specs.Answer.{with_value}
use Rattle.aig_answer.specs.AnswerText.{AreComments, AreValues, Comment, IsComment, IsLine, IsValue, Line, Values}
use Rattle.aig_answer.specs.AnswerText.{comment_line, last_line, line_text, status_lines, value_text}
use Rattle.aig_answer.specs.AnswerText.{values_of, values_text}
use Rattle.aig_answer.specs.Laws.{AnswersAreRead, StatusesAreRead}

-- what is read so far, where it stands
abbrev pub at : Spot → Option Status → Bool → ℕ → List ℕ → SoFar
at spot status ended line bits = so_far (record { spot = spot; status = status; ended = ended; line = line }) bits

-- a text, and what is after it
pub on : (s t : SoFar) (xs ys : List ℕ) → fold after s xs ≡ t → fold after s (xs ++ ys) ≡ fold after t ys
on s t xs ys is = fold-append after s xs ys ∙ ap (λ (u : SoFar). fold after u ys) is

module _ (status : Option Status) (ended : Bool) (bits : List ℕ) where
  comment_on : (line : ℕ) (text : List ℕ) → IsComment text
      → fold after (at spots.Comment status ended line bits) text ≡ at spots.Comment status ended line bits
  comment_on line [] is = refl
  comment_on line (b ∷ bs) is = rw (ne_eqb b 10 is.0) (comment_on line bs is.1)

  comment_read : (line : ℕ) (text : List ℕ) → IsComment text
      → fold after (at spots.LineStart status ended line bits) (comment_line text)
      ≡ at spots.LineStart status ended (line_after line) bits
  comment_read line text is =
      on (at spots.Comment status ended line bits) (at spots.Comment status ended line bits) text (codes "\n")
      (comment_on line text is)

  comments_read : (line : ℕ) (texts : List (List ℕ)) → AreComments texts
      → (next : ℕ) × (fold after (at spots.LineStart status ended line bits) (flat_map comment_line texts)
      ≡ at spots.LineStart status ended next bits)
  comments_read line [] are = (line, refl)
  comments_read line (t ∷ ts) are =
      let rest = comments_read (line_after line) ts are.1 in (
        rest.0,
        on (at spots.LineStart status ended line bits) (at spots.LineStart status ended (line_after line) bits)
            (comment_line t) (flat_map comment_line ts) (comment_read line t are.0)
            ∙ rest.1,
      )

status_read : (line : ℕ) (bits : List ℕ) (status : Status)
    → fold after (at spots.LineStart None false line bits) (status_text status ++ codes "\n")
    ≡ at spots.LineStart (Some status) false (line_after line) bits
status_read line bits Satisfiable = refl
status_read line bits Unsatisfiable = refl
status_read line bits Unknown = refl

-- comments and a status after the beginning
status_lines_read : (bits : List ℕ) (before : List (List ℕ)) (status : Status) → AreComments before
    → (line : ℕ) × (fold after (so_far begun bits) (status_lines before status)
    ≡ at spots.LineStart (Some status) false line bits)
status_lines_read bits before status are =
    let first = comments_read None false bits 1 before are in (
      line_after first.0,
      on (so_far begun bits) (at spots.LineStart None false first.0 bits) (flat_map comment_line before)
          (status_text status ++ codes "\n") first.1
          ∙ status_read first.0 bits status,
    )

both_left : (x y : Bool) → (x && y) ≡ true → x ≡ true
both_left true y is = refl
both_left false y is = cc

digit_low : (b : ℕ) → is_digit b ≡ true → 48 ≤ b
digit_low b is = leb-true 48 b (both_left _ _ is)

-- the number that digits go on to
abbrev value_from : ℕ → List ℕ → ℕ
value_from n digits = fold (λ m b. 10 * m + (b - 48)) n digits

grows : (n : ℕ) (digits : List ℕ) → n ≤ value_from n digits
grows n [] = omega arith
grows n (d ∷ ds) = let more = grows (10 * n + (d - 48)) ds in omega (arith, more)

-- which begin with the first one
from_first : (d : ℕ) (ds : List ℕ) → value_from (d - 48) ds ≡ value_of (d ∷ ds)
from_first d ds = let same : d - 48 ≡ 10 * 0 + (d - 48) = omega arith in ap (λ n. value_from n ds) same

abbrev AreDigits : List ℕ → Type 0
AreDigits text = AllByRecursion (λ b. is_digit b ≡ true) text

-- the values of a satisfiable answer, in a line of this number
module _ (line : ℕ) where
  -- it stands there, in the values of a satisfiable answer
  abbrev pub within : Spot → List ℕ → SoFar
  within spot bits = at spot (Some Satisfiable) false line bits

  digits_read : (is_negative : Bool) (bits : List ℕ) (n : ℕ) (digits : List ℕ) → 1 ≤ n → AreDigits digits
      → value_from n digits ≤ 2147483647
      → fold after (within (spots.Number is_negative n) bits) digits
      ≡ within (spots.Number is_negative (value_from n digits)) bits
  digits_read is_negative bits n [] some are small = refl
  digits_read is_negative bits n (d ∷ ds) some are small =
      let low = digit_low d are.0 in
      let more = grows (10 * n + (d - 48)) ds in
      rw (
        ne_eqb d 10 (λ e. omega (arith, e, low)),
        ne_eqb d 13 (λ e. omega (arith, e, low)),
        ne_eqb d 32 (λ e. omega (arith, e, low)),
        are.0,
        ne_eqb n 0 (λ e. omega (arith, e, some)),
        le-leb (10 * n + (d - 48)) 2147483647 (omega (arith, more, small)),
      )
      (digits_read is_negative bits (10 * n + (d - 48)) ds (omega (arith, some)) are.1 small)

  -- a number after a space, and after a minus
  number_read : (bits digits : List ℕ) → AreDigits digits → 48 < get_or digits 0 0 → value_of digits ≤ 2147483647
      → fold after (within spots.Space bits) digits ≡ within (spots.Number false (value_of digits)) bits
  number_read bits [] are high small = absurd (omega (arith, high))
  number_read bits (d ∷ ds) are high small =
      rw (
        ne_eqb d 10 (λ e. omega (arith, e, high)),
        ne_eqb d 13 (λ e. omega (arith, e, high)),
        ne_eqb d 32 (λ e. omega (arith, e, high)),
        ne_eqb d 45 (λ e. omega (arith, e, high)),
        are.0,
      )
      (digits_read false bits (d - 48) ds (omega (arith, high)) are.1 (omega (arith, from_first d ds, small))
      ∙ ap (λ n. within (spots.Number false n) bits) (from_first d ds))

  negated_read : (bits digits : List ℕ) → AreDigits digits → 48 < get_or digits 0 0 → value_of digits ≤ 2147483647
      → fold after (within spots.Minus bits) digits ≡ within (spots.Number true (value_of digits)) bits
  negated_read bits [] are high small = absurd (omega (arith, high))
  negated_read bits (d ∷ ds) are high small =
      rw (are.0, ne_eqb d 48 (λ e. omega (arith, e, high)))
      (digits_read true bits (d - 48) ds (omega (arith, high)) are.1 (omega (arith, from_first d ds, small))
      ∙ ap (λ n. within (spots.Number true n) bits) (from_first d ds))

  pub signed_read : (bits : List ℕ) (is_negative : Bool) (n : ℕ) → 1 ≤ n → n ≤ 2147483647
      → fold after (within spots.Space bits) ((if is_negative then codes "-" else []) ++ decimal n)
      ≡ within (spots.Number is_negative n) bits
  signed_read bits is_negative n some small =
      let fits : n < 2 ^ 64 = omega (arith, small) in
      let number = decimal_is_number n fits in
      let high = first_decimal n (omega (arith, some)) fits in
      let few : value_of (decimal n) ≤ 2147483647 = omega (arith, number.value, small) in
      signed_case bits is_negative n (decimal n) number.digits high few number.value where
        signed_case : (bits : List ℕ) (is_negative : Bool) (n : ℕ) (digits : List ℕ) → AreDigits digits
            → 48 < get_or digits 0 0 → value_of digits ≤ 2147483647 → value_of digits ≡ n
            → fold after (within spots.Space bits) ((if is_negative then codes "-" else []) ++ digits)
            ≡ within (spots.Number is_negative n) bits
        signed_case bits true n digits are high few is =
            negated_read bits digits are high few ∙ ap (λ m. within (spots.Number true m) bits) is
        signed_case bits false n digits are high few is =
            number_read bits digits are high few ∙ ap (λ m. within (spots.Number false m) bits) is

  -- where a space or a line feed may come, and these are the values then
  pub record Goes (s : SoFar) (bits : List ℕ) : Type 0 where
    pub space : after s 32 ≡ within spots.Space bits
    pub feed : after s 10 ≡ at spots.LineStart (Some Satisfiable) false (line_after line) bits

  pub number_goes : (bits : List ℕ) (value : Signed) → IsValue value
      → Goes (within (spots.Number value.is_negative value.number) bits) (with_value bits value)
  number_goes bits value is = record {
    space = rw (ne_eqb value.number 0 (λ e. omega (arith, e, is.0)));
    feed = rw (ne_eqb value.number 0 (λ e. omega (arith, e, is.0)));
  }

  values_on : (s : SoFar) (bits : List ℕ) (values : List Signed) → Goes s bits → AreValues values
      → (t : SoFar) × (fold after s (values_text values) ≡ t) × Goes t (fold with_value bits values)
  values_on s bits [] goes are = (s, refl, goes)
  values_on s bits (v ∷ vs) goes are =
      let t = within (spots.Number v.is_negative v.number) bits in
      let here : fold after s (value_text v) ≡ t =
      ap (λ (u : SoFar). fold after u ((if v.is_negative then codes "-" else []) ++ decimal v.number)) goes.space
      ∙ signed_read bits v.is_negative v.number are.0.0 are.0.1 in
      let rest = values_on t (with_value bits v) vs (number_goes bits v are.0) are.1 in
      (rest.0, on s t (value_text v) (values_text vs) here ∙ rest.1, rest.2)

  values_read : (bits : List ℕ) (values : List Signed) → AreValues values
      → fold after (within spots.LineStart bits) (line_text (Values values))
      ≡ at spots.LineStart (Some Satisfiable) false (line_after line) (fold with_value bits values)
  values_read bits values are =
      let ready = values_on (within spots.Values bits) bits values (record { space = refl; feed = refl }) are in
      on (within spots.Values bits) ready.0 (values_text values) (codes "\n") ready.1 ∙ ready.2.feed

  last_read : (bits : List ℕ) (values : List Signed) → AreValues values
      → fold after (within spots.LineStart bits) (last_line values)
      ≡ at spots.LineStart (Some Satisfiable) true (line_after line) (fold with_value bits values)
  last_read bits values are =
      let ready = values_on (within spots.Values bits) bits values (record { space = refl; feed = refl }) are in
      on (within spots.Values bits) ready.0 (values_text values) (codes " 0\n") ready.1
      ∙ ap (λ (u : SoFar). fold after u (codes "0\n")) ready.2.space

lines_read : (line : ℕ) (bits : List ℕ) (lines : List Line) → AllByRecursion IsLine lines
    → (next : ℕ) × (fold after (at spots.LineStart (Some Satisfiable) false line bits) (flat_map line_text lines)
    ≡ at spots.LineStart (Some Satisfiable) false next (fold with_value bits (flat_map values_of lines)))
lines_read line bits [] are = (line, refl)
lines_read line bits (Comment text ∷ ls) are =
    let rest = lines_read (line_after line) bits ls are.1 in (
      rest.0,
      on (at spots.LineStart (Some Satisfiable) false line bits)
          (at spots.LineStart (Some Satisfiable) false (line_after line) bits) (comment_line text)
          (flat_map line_text ls) (comment_read (Some Satisfiable) false bits line text are.0)
          ∙ rest.1,
    )
lines_read line bits (Values values ∷ ls) are =
    let now = fold with_value bits values in
    let rest = lines_read (line_after line) now ls are.1 in (
      rest.0,
      on (at spots.LineStart (Some Satisfiable) false line bits)
          (at spots.LineStart (Some Satisfiable) false (line_after line) now) (line_text (Values values))
          (flat_map line_text ls) (values_read line bits values are.0)
          ∙ rest.1
          ∙ ap (at spots.LineStart (Some Satisfiable) false rest.0)
          (sym (fold-append with_value bits values (flat_map values_of ls))),
    )

pub answers_are_read : AnswersAreRead
answers_are_read bits before lines last behind are are_lines are_last are_behind =
    let first = status_lines_read bits before Satisfiable are in
    let values = lines_read first.0 bits lines are_lines in
    let most = fold with_value bits (flat_map values_of lines) in
    let now = fold with_value most last in
    let end = comments_read (Some Satisfiable) true now (line_after values.0) behind are_behind in
    let comments = flat_map comment_line behind in
    let is : fold after (so_far begun bits)
    (status_lines before Satisfiable ++ (flat_map line_text lines ++ (last_line last ++ comments)))
    ≡ at spots.LineStart (Some Satisfiable) true end.0 now =
    on (so_far begun bits) (at spots.LineStart (Some Satisfiable) false first.0 bits) (status_lines before Satisfiable)
    (flat_map line_text lines ++ (last_line last ++ comments)) first.1
    ∙ on (at spots.LineStart (Some Satisfiable) false first.0 bits)
    (at spots.LineStart (Some Satisfiable) false values.0 most) (flat_map line_text lines) (last_line last ++ comments)
    values.1
    ∙ on (at spots.LineStart (Some Satisfiable) false values.0 most)
    (at spots.LineStart (Some Satisfiable) true (line_after values.0) now) (last_line last) comments
    (last_read values.0 most last are_last)
    ∙ end.1 in
    record {
      status_is = ap (λ (s : SoFar). answer_of (closed s.reader)) is;
      values_are = ap (λ (s : SoFar). s.bits) is ∙ sym (fold-append with_value bits (flat_map values_of lines) last);
    }

other_status : (line : ℕ) (bits : List ℕ) (status : Status) → status ≢ Satisfiable
    → answer_of (closed (at spots.LineStart (Some status) false line bits).reader) ≡ Ok status
other_status line bits Satisfiable other = absurd (other refl)
other_status line bits Unsatisfiable other = refl
other_status line bits Unknown other = refl

pub statuses_are_read : StatusesAreRead
statuses_are_read bits before status behind are are_behind other =
    let first = status_lines_read bits before status are in
    let end = comments_read (Some status) false bits first.0 behind are_behind in
    let is : fold after (so_far begun bits) (status_lines before status ++ flat_map comment_line behind)
    ≡ at spots.LineStart (Some status) false end.0 bits =
    on (so_far begun bits) (at spots.LineStart (Some status) false first.0 bits) (status_lines before status)
    (flat_map comment_line behind) first.1
    ∙ end.1 in
    record {
      status_is = ap (λ (s : SoFar). answer_of (closed s.reader)) is ∙ other_status end.0 bits status other;
      values_are = ap (λ (s : SoFar). s.bits) is;
    }
