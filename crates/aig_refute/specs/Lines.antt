-- Lines of a refutation, read byte by byte: this project's profile of DRAT, and of LRAT as text.
--
--     text    = (blank | comment | line)*
--     line    = ("d" blank*)? (number blank+)* "0"+ blank
--     comment = "c" anything LF
--     number  = [0-9]+ | "-" [1-9] [0-9]*      other than 0
--     blank   = " " | CR | LF
--
--     binary  = (("a" | "d") code* 0)*
--     code    = a number other than 0 in groups of seven bits, the lowest first, each in a byte: at most five of them,
--               all but the last of which are 128 or more
--
--     LRAT    = (blank | comment | numbered)*
--     numbered = id blank+ ((number blank+)* "0"+ blank+ (number blank+)* | "d" blank* (id blank+)*) "0"+ blank
--     id      = [0-9]+                          other than 0
--
-- A line adds its clause, or deletes it if it begins with `d`. The codes of the numbers v and -v are 2v and 2v + 1. A
-- code less 2 is the literal: number 1, the constant, has 0 and 1. In line N literals are below a limit plus 2N, and
-- below the word that ends a clause. In LRAT each line begins with a number, the clause's own, and behind the clause
-- stand hints, the numbers of clauses. They change nothing that it says, and nothing is deleted. A byte that cannot go
-- on so is in no line, and neither is what follows it. A number at the end of a text ends as before a line feed.
--
-- The first bytes tell text and binary apart. Binary begins with `a` or with `d`. But `d`, a space, at most eleven
-- digits and minuses and a space begin a text, since no clause has the code 32 twice. So those bytes are held until
-- then.
--
-- In text a line feed ends a line, wherever clauses end, and in binary a clause does. Lines are counted from 1.
use Rattle.std.specs.Prelude.{◌≡◌, ◌+◌, ◌-◌, ◌*◌, ◌%◌, ◌^◌, ◌==◌, ◌&&◌, ◌||◌, ◌++◌, ℕ, List, [], ◌∷◌, Bool, true}
use Rattle.std.specs.Prelude.{false, not, Option, None, Some, codes, fold, if◌then◌else◌, length, min, nat_le, nat_lt}
use Rattle.aig_refute.specs.declared.reader.LineEnd.{LineEnd}
use Rattle.aig_refute.specs.declared.reader.LineEnd.TheVariants.{Added, Bad, Deleted, Within}
use Rattle.aig_refute.specs.declared.reader.LinePart.{LinePart}
use Rattle.aig_refute.specs.declared.reader.LinePart.TheVariants as parts
use Rattle.aig_refute.specs.declared.reader.Reader.{Reader}
use Rattle.aig_refute.specs.declared.reader.RefutationFormat.{RefutationFormat}
use Rattle.aig_refute.specs.declared.reader.RefutationFormat.TheVariants.{Drat, Lrat}
use Rattle.aig_refute.specs.declared.reader.RefutationReader.{RefutationReader}
use Rattle.aig_refute.specs.declared.reader.Spot.{Spot}
use Rattle.aig_refute.specs.declared.reader.Spot.TheVariants as spots
use Rattle.aig_refute.specs.declared.reader.TheConstants.{MOST_HELD}
use Rattle.aig_refute.specs.declared.words.TheConstants.{END}

-- where the first byte stands
abbrev pub first_spot : RefutationFormat → Spot
first_spot Drat = spots.First
first_spot Lrat = spots.LineStart

-- how a line begins
abbrev pub first_part : RefutationFormat → LinePart
first_part Drat = parts.Literals
first_part Lrat = parts.Number

-- before the first byte, where literals are below this one
abbrev pub first_reader : RefutationFormat → ℕ → Reader
first_reader format limit = record {
  format = format;
  spot = first_spot format;
  part = first_part format;
  number = 0;
  is_negative = false;
  shift = 0;
  is_deletion = false;
  has_literals = false;
  limit = limit;
  line = 0;
}

abbrev pub standing_at : Reader → Spot → Reader
standing_at r spot = record r { spot = spot }

-- numbers of that part follow
abbrev pub in_part : Reader → LinePart → Reader
in_part r part = record r { part = part }

-- in a number of a text, which comes to this so far
abbrev pub in_text : Reader → Bool → ℕ → Reader
in_text r is_negative number = record r { spot = spots.Number; is_negative = is_negative; number = number }

-- where a code begins
abbrev pub in_binary : Reader → Reader
in_binary r = record r { spot = spots.Code; number = 0; shift = 0 }

-- lines are counted as far as 64 bits reach
abbrev pub line_after : ℕ → ℕ
line_after line = if nat_lt line (2 ^ 64 - 1) then line + 1 else line

-- a line begins
abbrev pub in_line : Reader → Reader
in_line r = record r { line = line_after r.line }

-- the line deletes its clause
abbrev pub deleting : Reader → Reader
deleting r = record r { is_deletion = true }

-- where a byte leads, the literal that ends with it, and what else does
pub record Move : Type 0 where
  pub reader : Reader
  pub literal : Option ℕ
  pub end : LineEnd

-- nothing ends
abbrev pub moved : Reader → Move
moved r = record { reader = r; literal = None; end = Within }

-- the byte is in no line
abbrev pub refused : Reader → Move
refused r = record { reader = standing_at r spots.Wrong; literal = None; end = Bad }

-- the clause ends
abbrev pub ended : Reader → Move
ended r = record { reader = r; literal = None; end = if r.is_deletion then Deleted else Added }

-- a literal that may stand in this line has this code
abbrev pub is_code : Reader → ℕ → Bool
is_code r code = nat_le 2 code && nat_lt (code - 2) (r.limit + 2 * r.line) && nat_lt (code - 2) END

-- a code ends, other than 0
abbrev pub with_code : Reader → ℕ → Move
with_code r code =
    if is_code r code
    then record { reader = record r { has_literals = true }; literal = Some (code - 2); end = Within }
    else refused r

abbrev pub is_blank : ℕ → Bool
is_blank byte = (byte == 32) || (byte == 13) || (byte == 10)

-- a line feed ends the line
abbrev pub behind_blank : ℕ → Spot
behind_blank byte = if byte == 10 then spots.LineStart else spots.Blank

abbrev pub is_digit : ℕ → Bool
is_digit byte = nat_le 48 byte && nat_le byte 57

-- a letter in a text of DRAT: `d` or `c`, where no clause has begun
abbrev pub in_drat_letter : Reader → ℕ → Move
in_drat_letter r byte =
    if r.is_deletion || r.has_literals then refused r
    else if byte == 100 then moved (standing_at (deleting r) spots.Blank)
    else if byte == 99 then moved (standing_at r spots.Comment)
    else refused r

-- in LRAT `c` stands where no line has begun, and `d` behind its number
abbrev pub in_lrat_letter_of : Reader → ℕ → LinePart → Move
in_lrat_letter_of r byte parts.Number = if byte == 99 then moved (standing_at r spots.Comment) else refused r
in_lrat_letter_of r byte parts.Literals =
    if (byte == 100) && not r.has_literals then moved (standing_at (in_part r parts.Deletion) spots.Blank)
    else refused r
in_lrat_letter_of r byte part = refused r

abbrev pub in_lrat_letter : Reader → ℕ → Move
in_lrat_letter r byte = in_lrat_letter_of r byte r.part

abbrev pub in_letter_of : Reader → ℕ → RefutationFormat → Move
in_letter_of r byte Drat = in_drat_letter r byte
in_letter_of r byte Lrat = in_lrat_letter r byte

abbrev pub in_letter : Reader → ℕ → Move
in_letter r byte = in_letter_of r byte r.format

-- in a text, between numbers
abbrev pub in_blank : Reader → ℕ → Move
in_blank r byte =
    if is_digit byte then moved (in_text r false (byte - 48))
    else if byte == 45 then moved (standing_at r spots.Minus)
    else if is_blank byte then moved (standing_at r (behind_blank byte))
    else in_letter r byte

-- up to a line feed
abbrev pub in_comment : Reader → ℕ → Move
in_comment r byte = if byte == 10 then moved (standing_at r spots.LineStart) else moved r

-- after `-`, where no 0 stands
abbrev pub in_minus : Reader → ℕ → Move
in_minus r byte = if is_digit byte && not (byte == 48) then moved (in_text r true (byte - 48)) else refused r

-- a digit more; no literal has a number that 32 bits do not hold, so there digits count no more
abbrev pub with_digit : ℕ → ℕ → ℕ
with_digit number byte = if nat_lt number (2 ^ 32) then 10 * number + (byte - 48) else number

abbrev pub code_of : Bool → ℕ → ℕ
code_of is_negative number = if is_negative then 2 * number + 1 else 2 * number

-- the literals end: in LRAT hints follow
abbrev pub with_literals_of : Reader → RefutationFormat → Move
with_literals_of r Drat = ended r
with_literals_of r Lrat = moved (in_part r parts.Hints)

abbrev pub with_literals : Reader → Move
with_literals r = with_literals_of r r.format

-- the number of a literal ends: 0 ends them
abbrev pub with_literal_number : Reader → Move
with_literal_number r =
    if r.number == 0 then with_literals r
    else if nat_lt r.number (2 ^ 32) then with_code r (code_of r.is_negative r.number)
    else refused r

-- a hint ends: 0 ends the line
abbrev pub with_hint : Reader → Move
with_hint r = if r.number == 0 then ended r else moved r

-- the number of a clause ends
abbrev pub with_own_number : Reader → Move
with_own_number r = if r.is_negative || (r.number == 0) then refused r else moved (in_part r parts.Literals)

-- that of one that is deleted: 0 ends the line, and nothing is
abbrev pub with_deleted : Reader → Move
with_deleted r =
    if r.is_negative then refused r
    else if r.number == 0 then moved (in_part r parts.Number)
    else moved r

-- a number ends
abbrev pub with_number_of : Reader → LinePart → Move
with_number_of r parts.Number = with_own_number r
with_number_of r parts.Literals = with_literal_number r
with_number_of r parts.Hints = with_hint r
with_number_of r parts.Deletion = with_deleted r

abbrev pub with_number : Reader → Move
with_number r = with_number_of r r.part

abbrev pub in_number : Reader → ℕ → Move
in_number r byte =
    if is_digit byte then moved (record r { number = with_digit r.number byte })
    else if is_blank byte then with_number (standing_at r (behind_blank byte))
    else refused r

-- the first byte of a line, in binary: `a` or `d`
abbrev pub in_mark : Reader → ℕ → Move
in_mark r byte =
    if byte == 97 then moved (in_binary r)
    else if byte == 100 then moved (in_binary (deleting r))
    else refused r

-- seven bits more, above so many, as far as 64 bits reach
abbrev pub with_group : ℕ → ℕ → ℕ → ℕ
with_group number shift byte = min (number + byte % 128 * 2 ^ shift) (2 ^ 64 - 1)

-- the last byte of a code: 0 ends the clause
abbrev pub with_whole : Reader → ℕ → Move
with_whole r code = if code == 0 then ended (standing_at r spots.Mark) else with_code (in_binary r) code

abbrev pub in_code : Reader → ℕ → Move
in_code r byte =
    if nat_lt 28 r.shift then refused r
    else if nat_le 128 byte then moved (record r { number = with_group r.number r.shift byte; shift = r.shift + 7 })
    else with_whole r (with_group r.number r.shift byte)

-- the first byte of all
abbrev pub in_first : Reader → ℕ → Move
in_first r byte =
    if byte == 97 then moved (in_binary r)
    else if byte == 100 then moved (standing_at (deleting r) spots.FirstDeletion)
    else in_blank r byte

-- after a `d` that was the first byte
abbrev pub in_first_deletion : Reader → ℕ → Move
in_first_deletion r byte =
    if byte == 32 then moved (standing_at r spots.FirstNumber) else in_code (in_binary r) byte

-- where a byte leads; those of a first number are held
abbrev pub move_at : Reader → ℕ → Spot → Move
move_at r byte spots.First = in_first (in_line r) byte
move_at r byte spots.FirstDeletion = in_first_deletion r byte
move_at r byte spots.FirstNumber = moved r
move_at r byte spots.LineStart = in_blank (in_line r) byte
move_at r byte spots.Blank = in_blank r byte
move_at r byte spots.Comment = in_comment r byte
move_at r byte spots.Minus = in_minus r byte
move_at r byte spots.Number = in_number r byte
move_at r byte spots.Mark = in_mark (in_line r) byte
move_at r byte spots.Code = in_code r byte
move_at r byte spots.Wrong = refused r

abbrev pub move : Reader → ℕ → Move
move r byte = move_at r byte r.spot

-- how far a refutation was read: the literals of the clause so far, and the bytes of a first number, which may be codes
pub record Reading : Type 0 where
  pub reader : Reader
  pub clause : List ℕ
  pub held : List ℕ

abbrev pub reading_of : RefutationReader → Reading
reading_of r = record { reader = r.reader; clause = r.clause.items; held = r.held.items }

-- where a byte leads, and what it ends
pub record Step : Type 0 where
  pub reading : Reading
  pub end : LineEnd

abbrev pub begun : RefutationFormat → ℕ → Reading
begun format limit = record { reader = first_reader format limit; clause = []; held = [] }

-- the next clause begins
abbrev pub cleared : Reading → Reading
cleared r = record r {
  reader = record r.reader { part = first_part r.reader.format; is_deletion = false; has_literals = false };
  clause = [];
}

abbrev pub with_literal : List ℕ → Option ℕ → List ℕ
with_literal clause None = clause
with_literal clause (Some literal) = clause ++ (literal ∷ [])

abbrev pub stepped : Reading → Move → Step
stepped r m =
    record { reading = record r { reader = m.reader; clause = with_literal r.clause m.literal }; end = m.end }

-- a reader goes there by a move, which ends this
abbrev pub Goes : RefutationReader → Move → RefutationReader → LineEnd → Type 0
Goes old m new end = stepped (reading_of old) m ≡ record { reading = reading_of new; end = end }

-- one more byte, where none is to be held
abbrev pub plain : Reading → ℕ → Step
plain r byte = stepped r (move r.reader byte)

abbrev pub after : Reading → ℕ → Reading
after r byte = (plain r byte).reading

-- what was held is of a text
abbrev pub held_text : Reading → Reading
held_text r = fold after (record r { reader = standing_at r.reader spots.Blank }) r.held

-- what was held is codes, and so is the space before it
abbrev pub held_codes : Reading → Reading
held_codes r = fold after (after (record r { reader = in_binary r.reader }) 32) r.held

abbrev pub may_be_held : Reading → ℕ → Bool
may_be_held r byte = ((byte == 45) || is_digit byte) && nat_lt (length r.held) MOST_HELD

-- in the first number, which may be codes: a space shows that it is one
abbrev pub in_first_number : Reading → ℕ → Step
in_first_number r byte =
    if may_be_held r byte then record { reading = record r { held = r.held ++ (byte ∷ []) }; end = Within }
    else if byte == 32 then plain (held_text r) byte
    else plain (held_codes r) byte

abbrev pub next_at : Reading → ℕ → Spot → Step
next_at r byte spots.FirstNumber = in_first_number r byte
next_at r byte spot = plain r byte

-- after one more byte
abbrev pub next : Reading → ℕ → Step
next r byte = next_at r byte r.reader.spot

-- what ends the last number of a text, where nothing stands after it
abbrev pub missing_end_at : Spot → List ℕ
missing_end_at spots.Number = codes "\n"
missing_end_at spot = []

abbrev pub missing_end : Reading → List ℕ
missing_end r = missing_end_at r.reader.spot

-- the number of the line
abbrev pub line_of : Reading → ℕ
line_of r = r.reader.line

abbrev pub is_wrong_at : Spot → Bool
is_wrong_at spots.Wrong = true
is_wrong_at spot = false

-- a byte came that is in no line
abbrev pub is_wrong : Reading → Bool
is_wrong r = is_wrong_at r.reader.spot
