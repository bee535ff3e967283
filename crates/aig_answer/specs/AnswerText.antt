-- The text of an answer as solvers write it: comments, the status, and lines of values, the last of which ends in 0.
use Rattle.std.specs.Prelude.{◌≢◌, ◌≤◌, ◌++◌, ℕ, List, [], codes, decimal, if◌then◌else◌}
use Rattle.std.specs.List.{AllByRecursion, flat_map}
use Rattle.aig_answer.specs.declared.reader.Signed.{Signed}
use Rattle.aig_answer.specs.declared.reader.Status.{Status}
use Rattle.aig_answer.specs.declared.reader.Status.TheVariants.{Satisfiable}
use Rattle.aig_answer.specs.declared.reader.TheConstants.{LARGEST_NUMBER}
use Rattle.aig_answer.specs.Answer.{status_text}

-- a value, after a space
abbrev pub value_text : Signed → List ℕ
value_text value = codes " " ++ ((if value.is_negative then codes "-" else []) ++ decimal value.number)

abbrev pub values_text : List Signed → List ℕ
values_text values = flat_map value_text values

-- a line between the status and the last line: a comment, or some values
pub data Line : Type 0 where
  Comment : List ℕ → Line
  Values : List Signed → Line

abbrev pub comment_line : List ℕ → List ℕ
comment_line text = codes "c" ++ (text ++ codes "\n")

abbrev pub line_text : Line → List ℕ
line_text (Comment text) = comment_line text
line_text (Values values) = codes "v" ++ (values_text values ++ codes "\n")

abbrev pub values_of : Line → List Signed
values_of (Comment text) = []
values_of (Values values) = values

-- the values of a satisfiable answer, in the order of its lines
abbrev pub all_values : List Line → List Signed → List Signed
all_values lines last = flat_map values_of lines ++ last

abbrev pub last_line : List Signed → List ℕ
last_line values = codes "v" ++ (values_text values ++ codes " 0\n")

-- the status, between comments
abbrev pub status_lines : List (List ℕ) → Status → List ℕ
status_lines before status = flat_map comment_line before ++ (status_text status ++ codes "\n")

-- a satisfiable answer
abbrev pub answer_text : List (List ℕ) → List Line → List Signed → List (List ℕ) → List ℕ
answer_text before lines last behind =
    status_lines before Satisfiable ++ (flat_map line_text lines ++ (last_line last ++ flat_map comment_line behind))

-- the text of a comment goes on to the end of its line
abbrev pub IsComment : List ℕ → Type 0
IsComment text = AllByRecursion (λ byte. byte ≢ 10) text

abbrev pub AreComments : List (List ℕ) → Type 0
AreComments texts = AllByRecursion IsComment texts

-- variables have numbers from 1 on
abbrev pub IsValue : Signed → Type 0
IsValue value = (1 ≤ value.number) × (value.number ≤ LARGEST_NUMBER)

abbrev pub AreValues : List Signed → Type 0
AreValues values = AllByRecursion IsValue values

abbrev pub IsLine : Line → Type 0
IsLine (Comment text) = IsComment text
IsLine (Values values) = AreValues values
