-- Answers of SAT solvers, read byte by byte (the output of the SAT competitions; where their rules leave something
-- open, this project's profile):
--
--     answer = line*
--     line   = "" | "c" anything | status | "v" (" "+ number)* " "*
--     status = "s SATISFIABLE" | "s UNSATISFIABLE" | "s UNKNOWN"
--     number = "0" | "-"? [1-9][0-9]*      at most 2147483647
--
-- A line ends in a line feed, before which one carriage return may stand; the last line may end with the text. There is
-- one status. Lines of values stand after the status SATISFIABLE and nowhere else; 0 is the last number of all, and it
-- is there.
use Rattle.std.specs.Prelude.{◌+◌, ◌-◌, ◌*◌, ◌^◌, ◌==◌, ◌&&◌, ◌||◌, ℕ, List, Bool, true, false, not, Option, None, Some}
use Rattle.std.specs.Prelude.{Result, Ok, Err, codes, is_none, length, nat_le, nat_lt, slice_index, slice_set, take}
use Rattle.std.specs.Prelude.{if◌then◌else◌}
use Rattle.std.specs.Str.{bytes_eq}
use Rattle.aig_fault.specs.Stopping.{fault_at}
use Rattle.aig_fault.specs.declared.fault.Fault.{Fault}
use Rattle.aig_fault.specs.declared.fault.Place.TheVariants.{Line}
use Rattle.aig_fault.specs.declared.kind.Kind.TheVariants.{BadAnswer}
use Rattle.aig_answer.specs.declared.reader.Move.{Move}
use Rattle.aig_answer.specs.declared.reader.Reader.{Reader}
use Rattle.aig_answer.specs.declared.reader.Signed.{Signed}
use Rattle.aig_answer.specs.declared.reader.Spot.{Spot}
use Rattle.aig_answer.specs.declared.reader.Spot.TheVariants as spots
use Rattle.aig_answer.specs.declared.reader.Status.{Status}
use Rattle.aig_answer.specs.declared.reader.Status.TheVariants.{Satisfiable, Unsatisfiable, Unknown}
use Rattle.aig_answer.specs.declared.reader.TheConstants.{LARGEST_NUMBER}

abbrev pub begun : Reader
begun = record { spot = spots.LineStart; status = None; ended = false; line = 1 }

abbrev pub standing_at : Reader → Spot → Reader
standing_at r spot = record { spot = spot; status = r.status; ended = r.ended; line = r.line }

-- lines are counted as far as 64 bits reach
abbrev pub line_after : ℕ → ℕ
line_after line = if nat_lt line (2 ^ 64 - 1) then line + 1 else line

abbrev pub on_next_line : Reader → Reader
on_next_line r = record { spot = spots.LineStart; status = r.status; ended = r.ended; line = line_after r.line }

-- a line feed ends the text of a line, and so does a carriage return, after which a line feed is due
abbrev pub ends_line : ℕ → Bool
ends_line byte = (byte == 10) || (byte == 13)

abbrev pub behind_line : Reader → ℕ → Reader
behind_line r byte = if byte == 10 then on_next_line r else standing_at r spots.Return

abbrev pub in_return : Reader → ℕ → Reader
in_return r byte = if byte == 10 then on_next_line r else standing_at r spots.Wrong

abbrev pub is_satisfiable : Option Status → Bool
is_satisfiable (Some Satisfiable) = true
is_satisfiable status = false

abbrev pub awaits_values : Reader → Bool
awaits_values r = is_satisfiable r.status && not r.ended

-- the first byte of a line: none, `c`, `s` or `v`
abbrev pub in_line_start : Reader → ℕ → Reader
in_line_start r byte =
    if ends_line byte then behind_line r byte
    else if byte == 99 then standing_at r spots.Comment
    else if (byte == 115) && is_none r.status then standing_at r (spots.Word Satisfiable 1)
    else if (byte == 118) && awaits_values r then standing_at r spots.Values
    else standing_at r spots.Wrong

abbrev pub in_comment : Reader → ℕ → Reader
in_comment r byte = if byte == 10 then on_next_line r else standing_at r spots.Comment

abbrev pub status_text : Status → List ℕ
status_text Satisfiable = codes "s SATISFIABLE"
status_text Unsatisfiable = codes "s UNSATISFIABLE"
status_text Unknown = codes "s UNKNOWN"

-- the line of a status begins with so many bytes of this one's, and then has this byte
abbrev pub goes_on : Status → ℕ → ℕ → Status → Bool
goes_on so_far at byte status =
    nat_le at (length (status_text so_far)) && nat_lt at (length (status_text status))
    && bytes_eq (take at (status_text status)) (take at (status_text so_far))
    && (slice_index (status_text status) at == byte)

-- so many bytes came of a status
abbrev pub in_word : Reader → Status → ℕ → ℕ → Reader
in_word r so_far at byte =
    if ends_line byte && (at == length (status_text so_far))
    then behind_line (record { spot = r.spot; status = Some so_far; ended = r.ended; line = r.line }) byte
    else if goes_on so_far at byte Satisfiable then standing_at r (spots.Word Satisfiable (at + 1))
    else if goes_on so_far at byte Unsatisfiable then standing_at r (spots.Word Unsatisfiable (at + 1))
    else if goes_on so_far at byte Unknown then standing_at r (spots.Word Unknown (at + 1))
    else standing_at r spots.Wrong

abbrev pub is_digit : ℕ → Bool
is_digit byte = nat_le 48 byte && nat_le byte 57

-- after `v`, where a space stands before a number
abbrev pub in_values : Reader → ℕ → Reader
in_values r byte =
    if ends_line byte then behind_line r byte
    else if byte == 32 then standing_at r spots.Space
    else standing_at r spots.Wrong

-- after a space, where a number may begin, unless 0 came
abbrev pub in_space : Reader → ℕ → Reader
in_space r byte =
    if ends_line byte then behind_line r byte
    else if byte == 32 then standing_at r spots.Space
    else if (byte == 45) && not r.ended then standing_at r spots.Minus
    else if is_digit byte && not r.ended then standing_at r (spots.Number false (byte - 48))
    else standing_at r spots.Wrong

-- after `-`, where no 0 stands
abbrev pub in_minus : Reader → ℕ → Reader
in_minus r byte =
    if is_digit byte && not (byte == 48) then standing_at r (spots.Number true (byte - 48))
    else standing_at r spots.Wrong

-- a digit more: none after 0, and no number above the largest
abbrev pub more_digits : Reader → Bool → ℕ → ℕ → Reader
more_digits r is_negative number byte =
    if (is_digit byte && not (number == 0)) && nat_le (10 * number + (byte - 48)) LARGEST_NUMBER
    then standing_at r (spots.Number is_negative (10 * number + (byte - 48)))
    else standing_at r spots.Wrong

-- after a number: 0 is the last one, and no value
abbrev pub ended_by : Reader → ℕ → Reader
ended_by r number = record { spot = r.spot; status = r.status; ended = r.ended || (number == 0); line = r.line }

abbrev pub signed_by : Bool → ℕ → Option Signed
signed_by is_negative number =
    if number == 0 then None else Some (record { number = number; is_negative = is_negative })

abbrev pub moved : Reader → Option Signed → Move
moved r value = record { reader = r; value = value }

abbrev pub in_number : Reader → Bool → ℕ → ℕ → Move
in_number r is_negative number byte =
    if ends_line byte then moved (behind_line (ended_by r number) byte) (signed_by is_negative number)
    else if byte == 32 then moved (standing_at (ended_by r number) spots.Space) (signed_by is_negative number)
    else moved (more_digits r is_negative number byte) None

abbrev pub next_at : Reader → ℕ → Spot → Move
next_at r byte spots.LineStart = moved (in_line_start r byte) None
next_at r byte spots.Comment = moved (in_comment r byte) None
next_at r byte (spots.Word so_far at) = moved (in_word r so_far at byte) None
next_at r byte spots.Values = moved (in_values r byte) None
next_at r byte spots.Space = moved (in_space r byte) None
next_at r byte spots.Minus = moved (in_minus r byte) None
next_at r byte (spots.Number is_negative number) = in_number r is_negative number byte
next_at r byte spots.Return = moved (in_return r byte) None
next_at r byte spots.Wrong = moved (standing_at r spots.Wrong) None

abbrev pub next : Reader → ℕ → Move
next r byte = next_at r byte r.spot

-- at the end of the text, which ends a line that has begun; not after a carriage return, which no line feed follows
abbrev pub closed_at : Reader → Spot → Reader
closed_at r spots.LineStart = r
closed_at r spots.Return = standing_at r spots.Wrong
closed_at r spot = (next r 10).reader

abbrev pub closed : Reader → Reader
closed r = closed_at r r.spot

-- the line of this number is none that may stand there, or is missing
abbrev pub bad_line : ℕ → Fault
bad_line line = fault_at BadAnswer (Line line) 0

-- what is said after the last line
abbrev pub said_or : ℕ → Bool → Option Status → Result Status Fault
said_or line ended None = Err (bad_line line)
said_or line ended (Some Satisfiable) = if ended then Ok Satisfiable else Err (bad_line line)
said_or line ended (Some status) = Ok status

abbrev pub answer_at : Reader → Spot → Result Status Fault
answer_at r spots.Wrong = Err (bad_line r.line)
answer_at r spot = said_or r.line r.ended r.status

abbrev pub answer_of : Reader → Result Status Fault
answer_of r = answer_at r r.spot

-- how far an answer was read, and the values so far, as the characters `0` and `1`
pub record SoFar : Type 0 where
  pub reader : Reader
  pub bits : List ℕ

abbrev pub so_far : Reader → List ℕ → SoFar
so_far r bits = record { reader = r; bits = bits }

-- with the value of a variable, where it has a place: number 2 has the first
abbrev pub with_value : List ℕ → Signed → List ℕ
with_value bits value =
    if nat_le 2 value.number && nat_lt (value.number - 2) (length bits)
    then slice_set bits (value.number - 2) (if value.is_negative then 48 else 49)
    else bits

abbrev pub with_any : List ℕ → Option Signed → List ℕ
with_any bits None = bits
with_any bits (Some value) = with_value bits value

-- after one more byte
abbrev pub after : SoFar → ℕ → SoFar
after s byte = so_far (next s.reader byte).reader (with_any s.bits (next s.reader byte).value)
