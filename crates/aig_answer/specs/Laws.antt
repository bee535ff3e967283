-- What the definitions of this crate say of one another.
use Rattle.std.specs.Prelude.{◌≡◌, ◌≢◌, ◌++◌, ℕ, List, [], Ok, fold}
use Rattle.std.specs.List.{AllByRecursion, flat_map}
use Rattle.aig_answer.specs.declared.reader.Signed.{Signed}
use Rattle.aig_answer.specs.declared.reader.Status.{Status}
use Rattle.aig_answer.specs.declared.reader.Status.TheVariants.{Satisfiable}
use Rattle.aig_answer.specs.Answer.{SoFar, after, answer_of, begun, closed, so_far, with_value}
use Rattle.aig_answer.specs.AnswerText.{AreComments, AreValues, IsLine, Line, all_values, answer_text, comment_line}
use Rattle.aig_answer.specs.AnswerText.{status_lines}

-- what is read of a text
abbrev pub read_from : List ℕ → List ℕ → SoFar
read_from bits text = fold after (so_far begun bits) text

-- A text says this, and these values.
pub record IsReadAs (bits text : List ℕ) (status : Status) (values : List Signed) : Type 0 where
  pub status_is : answer_of (closed (read_from bits text).reader) ≡ Ok status
  pub values_are : (read_from bits text).bits ≡ fold with_value bits values

-- the text of a satisfiable answer is read as its values, each in its place, in lines of any length, between comments
abbrev pub AnswersAreRead : Type 0
AnswersAreRead = (bits : List ℕ) (before : List (List ℕ)) (lines : List Line) (last : List Signed)
    (behind : List (List ℕ)) → AreComments before → AllByRecursion IsLine lines → AreValues last → AreComments behind
    → IsReadAs bits (answer_text before lines last behind) Satisfiable (all_values lines last)

-- and that of any other answer as its status
abbrev pub StatusesAreRead : Type 0
StatusesAreRead = (bits : List ℕ) (before : List (List ℕ)) (status : Status) (behind : List (List ℕ))
    → AreComments before → AreComments behind → status ≢ Satisfiable
    → IsReadAs bits (status_lines before status ++ flat_map comment_line behind) status []
