-- A value that is read at once is read as it is byte by byte.
use mir.Val.{bool_byte}
use Rattle.std.proofs.Common.{◌≡◌, ◌==◌, ◌+◌, ◌<◌, ◌≤◌, ◌^◌, ◌++◌, ◌∙◌, ◌⊎◌, ℕ, suc, List, [], ◌∷◌, Bool, true, false}
use Rattle.std.proofs.Common.{Option, Some}
use Rattle.std.proofs.Common.{ap, append_assoc, arith, codes, decimal, drop, eqb-true, fold, if◌then◌else◌, inl, inr}
use Rattle.std.proofs.Common.{length, length-append, refl, subst, sym, true≢false}
use Rattle.std.specs.List.{position_or_len}
use Rattle.aig_rows.specs.CanonicalNumber.{canonical_before}
use Rattle.aig_rows.proofs.Canonical.{canonical_reads}
use Rattle.aig_answer.specs.declared.reader.Reader.{Reader}
use Rattle.aig_answer.specs.declared.reader.Signed.{Signed}
use Rattle.aig_answer.specs.declared.reader.Spot.{Spot}
use Rattle.aig_answer.specs.declared.reader.Spot.TheVariants as spots
use Rattle.aig_answer.specs.declared.reader.Status.{Status}
use Rattle.aig_answer.specs.Answer.{SoFar, after, on_next_line, so_far, standing_at, with_value}
use Rattle.aig_answer.specs.AnswerText.{IsValue, value_text}
use Rattle.aig_answer.specs.Parts.{awaiting, begins_with_minus, behind_value}
use Rattle.aig_answer.proofs.Answers.{at, number_goes, on, signed_read, within}

-- after a space, the bytes go on with this value, and then these
pub record BeginsWithValue (bytes : List ℕ) (value : Signed) (rest : List ℕ) : Type 0 where
  pub is_value : IsValue value
  pub spelled : codes " " ++ bytes ≡ value_text value ++ rest

abbrev sign : Bool → List ℕ
sign is_negative = if is_negative then codes "-" else []

minus_is : (bytes digits : List ℕ) (is_negative : Bool) → begins_with_minus bytes ≡ is_negative
    → digits ≡ drop (bool_byte is_negative) bytes → bytes ≡ sign is_negative ++ digits
minus_is [] digits true is behind = absurd (true≢false (sym is))
minus_is (b ∷ bs) digits true is behind = rw (eqb-true b 45 is) (ap (λ (ds : List ℕ). 45 ∷ ds) (sym behind))
minus_is bytes digits false is behind = sym behind

-- a canonical number with this byte behind it, and maybe a minus before it, is such a value
pub begins_with_value : (bytes digits rest : List ℕ) (value : Signed) (stop : ℕ)
    → begins_with_minus bytes ≡ value.is_negative → digits ≡ drop (bool_byte value.is_negative) bytes
    → canonical_before stop digits ≡ Some (value.number, rest) → IsValue value
    → BeginsWithValue bytes value (stop ∷ rest)
begins_with_value bytes digits rest value stop minus behind read is = record {
  is_value = is;
  spelled =
      let few : value.number < 2 ^ 33 = omega (arith, is.1) in
      let are : digits ≡ decimal value.number ++ stop ∷ rest =
      canonical_reads value.number stop digits rest few read in
      ap (λ (bs : List ℕ). 32 ∷ bs)
      (minus_is bytes digits value.is_negative minus behind
      ∙ rw are (sym (append_assoc (sign value.is_negative) (decimal value.number) (stop ∷ rest))));
}

-- what follows it is shorter
pub number_shortens : (digits rest : List ℕ) (number stop : ℕ) → number ≤ 2147483647
    → canonical_before stop digits ≡ Some (number, rest) → length rest < length digits
number_shortens digits rest number stop few read =
    let fits : number < 2 ^ 33 = omega (arith, few) in
    let same : length digits ≡ length (decimal number ++ stop ∷ rest) =
    ap length (canonical_reads number stop digits rest fits read) in
    omega (arith, simp length-append at same)

module _ (line : ℕ) (bits bytes rest : List ℕ) (value : Signed) where
  -- its last digit came
  abbrev spelled_out : SoFar
  spelled_out = within line (spots.Number value.is_negative value.number) bits

  value_read : (stop : ℕ) → BeginsWithValue bytes value (stop ∷ rest)
      → fold after (so_far (awaiting line) bits) bytes ≡ fold after (after spelled_out stop) rest
  value_read stop b =
      let text = sign value.is_negative ++ decimal value.number in
      let are : bytes ≡ text ++ (stop ∷ rest) = ap (λ (bs : List ℕ). drop 1 bs) b.spelled in
      ap (λ (bs : List ℕ). fold after (so_far (awaiting line) bits) bs) are
      ∙ on (so_far (awaiting line) bits) spelled_out text (stop ∷ rest)
      (signed_read line bits value.is_negative value.number b.is_value.0 b.is_value.1)

  before_space : BeginsWithValue bytes value (32 ∷ rest)
      → fold after (so_far (awaiting line) bits) bytes
      ≡ fold after (so_far (awaiting line) (with_value bits value)) rest
  before_space b =
      value_read 32 b ∙ ap (λ (s : SoFar). fold after s rest) (number_goes line bits value b.is_value).space

  before_feed : BeginsWithValue bytes value (10 ∷ rest)
      → fold after (so_far (awaiting line) bits) bytes
      ≡ fold after (so_far (on_next_line (awaiting line)) (with_value bits value)) rest
  before_feed b =
      value_read 10 b ∙ ap (λ (s : SoFar). fold after s rest) (number_goes line bits value b.is_value).feed

  -- the value is put, and what is behind it goes on
  pub behind_value_is : (stop : ℕ) → (stop ≡ 32) ⊎ (stop ≡ 10) → BeginsWithValue bytes value (stop ∷ rest)
      → (r : Reader) → standing_at r spots.Space ≡ awaiting line
      → fold after (so_far (awaiting line) bits) bytes
      ≡ fold after (so_far (behind_value r stop) (with_value bits value)) rest
  behind_value_is stop (inl is) b r at =
      let b = rw is at b in
      rw is (before_space b ∙ ap (λ (q : Reader). fold after (so_far q (with_value bits value)) rest) (sym at))
  behind_value_is stop (inr is) b r at =
      let b = rw is at b in
      let after_line = λ (q : Reader). fold after (so_far (on_next_line q) (with_value bits value)) rest in
      rw is (before_feed b ∙ ap after_line (sym at))

-- a comment goes on to its line feed
module _ (status : Option Status) (ended : Bool) (bits : List ℕ) (line : ℕ) where
  abbrev in_comment : SoFar
  in_comment = at spots.Comment status ended line bits

  comment_passed : (bytes : List ℕ)
      → fold after in_comment bytes ≡ fold after in_comment (drop (position_or_len (λ b. b == 10) bytes) bytes)
  comment_passed [] = refl
  comment_passed (b ∷ bs) =
      elim (b == 10) as
      (λ d. (b == 10) ≡ d → fold after in_comment (b ∷ bs)
      ≡ fold after in_comment (drop (position_or_len (λ c. c == 10) (b ∷ bs)) (b ∷ bs))) [
        | true ↦ λ is.
            let none : position_or_len (λ c. c == 10) (b ∷ bs) ≡ 0 = rw is refl in
            ap (λ (n : ℕ). fold after in_comment (drop n (b ∷ bs))) (sym none)
        | false ↦ λ is.
            let more = position_or_len (λ c. c == 10) bs in
            let same : drop (1 + more) (b ∷ bs) ≡ drop more bs =
            let one : 1 + more ≡ suc more = omega arith in
            rw one refl in
            rw (is, same) (comment_passed bs)
      ] refl

pub comment_is_passed : (r : Reader) (bits bytes : List ℕ) → r.spot ≡ spots.Comment
    → fold after (so_far r bits) bytes
    ≡ fold after (so_far r bits) (drop (position_or_len (λ b. b == 10) bytes) bytes)
comment_is_passed r bits bytes is =
    subst
    (λ (spot : Spot). fold after (at spot r.status r.ended r.line bits) bytes
    ≡ fold after (at spot r.status r.ended r.line bits) (drop (position_or_len (λ b. b == 10) bytes) bytes))
    (sym is) (comment_passed r.status r.ended bits r.line bytes)
